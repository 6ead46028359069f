-- `segmentation::from_date` meets its contract: what is left of the list finds what is asked.
use Rattle.std.proofs.Common.{◌≡◌, ℕ, ◌-◌, take, drop, length, arith}
use mathlib.Core.Path.{sym, ◌∙◌}
use mathlib.Core.List.{List}
use Rattle.std.proofs.lemmas.List.{take_all}
use lib.ListN.{length-drop, drop_of_length-le}
use Rattle.units.proofs.Loop.{at-whole}
use Rattle.segmentation.specs.declared.DelaySegment.{DelaySegment}
use Rattle.segmentation.proofs.DelayLoop.{look-end, look-here, look-on}
use Rattle.segmentation.proofs.from_date.Goals as goal

-- a slice to the end
to-end : (l : List DelaySegment) (i : ℕ) → take (length l - i) (drop i l) ≡ drop i l
to-end l i = take_all _ (drop i l) (simp length-drop (omega arith))

pub returns-then-belongs : goal.returns-then-belongs
returns-then-belongs c =
    to-end c.args.delays.now c.loop-i.i ∙ sym (look-here _ _ _ _ c.loop-i.invariant _ (at-whole _ _ _ c.loop-i-test.true) (sym c.belongs.ensures ∙ c.if-belongs.true))

pub loop-i-preserved : goal.loop-i-preserved
loop-i-preserved c =
    look-on _ _ _ _ c.loop-i.invariant _ (at-whole _ _ _ c.loop-i-test.true) (sym c.belongs.ensures ∙ c.if-belongs.false)

pub returns : goal.returns
returns c =
    let l = c.args.delays.now in
    to-end l (length l) ∙ drop_of_length-le l {i = length l} (omega arith) ∙ sym (look-end _ _ _ _ c.loop-i.invariant c.loop-i-test.false)
