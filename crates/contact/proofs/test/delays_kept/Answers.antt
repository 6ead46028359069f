-- `contact::test::delays_kept` meets its contract: what is used, then what is not.
use Rattle.std.proofs.Common.{sym, ap, ◌∙◌, arith, rules}
use Rattle.units.specs.Limits.{segments_max}
use Rattle.units.specs.Logic.{all_of}
use Rattle.contact.specs.Segments.{no_delay}
use Rattle.contact.proofs.Told.{rest-of}
use Rattle.units.proofs.Logic.{both_go, both-stop}
use Rattle.contact.proofs.Delays.{delays-most}
use Rattle.contact.proofs.test.delays_kept.Goals as goal

pub offset_bounds-delays-count : goal.offset_bounds-delays-count
offset_bounds-delays-count c = let h = delays-most _ _ _ c.in-Some.ensures.0 in record { fits = omega arith }

pub slice_bounds-unused-count : goal.slice_bounds-unused-count
slice_bounds-unused-count c = omega (arith, delays-most _ _ _ c.in-Some.ensures.0)

pub slice_bounds-unused-start : goal.slice_bounds-unused-start
slice_bounds-unused-start c = omega (arith, delays-most _ _ _ c.in-Some.ensures.0)

pub returns-in-Some : goal.returns-in-Some
returns-in-Some c = c.unused.ensures ∙ ap (all_of no_delay) (rest-of segments_max _ c.args.delays.now (search rules)) ∙ sym (both_go _ _ c.in-Some.ensures.0)

pub returns-in-None : goal.returns-in-None
returns-in-None c = sym (both-stop _ _ c.in-None.ensures)
