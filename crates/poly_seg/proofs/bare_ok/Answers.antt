-- `poly_seg::bare_ok` meets its contract: from the least start allowed on, the segments left have the answer of all.
use mathlib.Core.Path.{sym, ap, ◌∙◌}
use mathlib.Core.List.{[]}
use native.Mathlib.Omega.{arith}
use lib.ListN.{drop_of_length-le}
use Rattle.units.proofs.Loop.{at-whole}
use Rattle.units.proofs.Windows.{window}
use Rattle.free_list.specs.Listed.{list_ok}
use Rattle.free_list.proofs.ListedLaws.{list-stop, list-go, list-none}
use Rattle.poly_seg.proofs.NoRates.{segment-by}
use Rattle.poly_seg.proofs.bare_ok.Goals as goal

pub overflow_add-low : goal.overflow_add-low
overflow_add-low c =
    record { fits = omega (arith, segment-by _ _ _ (sym c.bare_segment.ensures ∙ c.if-not-bare_segment.false), (window _ c.requires).date) }

pub loop-g-preserved : goal.loop-g-preserved
loop-g-preserved c =
    c.loop-g.invariant
    ∙ ap (list_ok [] c.loop-g.low.0 c.args.window.end.0) (at-whole _ _ _ c.loop-g-test.true)
    ∙ list-go _ _ _ _ _ (sym c.bare_segment.ensures ∙ c.if-not-bare_segment.false)

pub returns-then-not-bare_segment : goal.returns-then-not-bare_segment
returns-then-not-bare_segment c =
    sym
    (c.loop-g.invariant
    ∙ ap (list_ok [] c.loop-g.low.0 c.args.window.end.0) (at-whole _ _ _ c.loop-g-test.true)
    ∙ list-stop _ _ _ _ _ (sym c.bare_segment.ensures ∙ c.if-not-bare_segment.true))

pub returns : goal.returns
returns c =
    sym
    (c.loop-g.invariant
    ∙ ap (list_ok [] c.loop-g.low.0 c.args.window.end.0) (drop_of_length-le _ c.loop-g-test.false)
    ∙ list-none _ _ _)
