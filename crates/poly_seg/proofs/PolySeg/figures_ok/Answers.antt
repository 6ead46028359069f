-- `poly_seg::PolySeg::figures_ok` meets its contract: the opening's number, then the places that are not used.
use borrow.Author.Rules.{rules}
use Prim.Native.Nat.{◌≤◌}
use mathlib.Core.Path.{sym, ap, ◌∙◌}
use native.Mathlib.Omega.{arith}
use Rattle.units.specs.Limits.{segments_max}
use Rattle.units.specs.Logic.{all_of}
use Rattle.contact.specs.Segments.{no_delay}
use Rattle.contact.proofs.Told.{rest-of}
use Rattle.poly_seg.proofs.Lookup.{delays-most}
use Rattle.poly_seg.proofs.Opening.{open-number, open-passed}
use Rattle.poly_seg.proofs.Facts.{figures-refused, figures-rest}
use Rattle.poly_seg.proofs.Told.{number-some}
use Rattle.poly_seg.proofs.PolySeg.figures_ok.Goals as goal
use Rattle.poly_seg.proofs.PolySeg.figures_ok.Goals.{In-Ok}

used-few : (c : In-Ok) → c.args.self.now.delay_count ≤ segments_max
used-few c = delays-most _ _ _ _ (open-passed _ _ _ _ _ (open-number _ _ _ _ _ ∙ sym c.in-Ok.ensures.number)).delay

pub offset_bounds-delays-count : goal.offset_bounds-delays-count
offset_bounds-delays-count c = let few = used-few (goal.at.offset_bounds-delays-count c).In-Ok in record { fits = omega arith }

pub slice_bounds-unused-count : goal.slice_bounds-unused-count
slice_bounds-unused-count c = used-few (goal.at.slice_bounds-unused-count c).In-Ok

pub slice_bounds-unused-start : goal.slice_bounds-unused-start
slice_bounds-unused-start c = used-few (goal.at.slice_bounds-unused-start c).In-Ok

pub returns-in-Ok : goal.returns-in-Ok
returns-in-Ok c =
    let zero = sym (c.in-Ok.ensures.number ∙ sym (open-number _ _ _ _ _)) in
    c.unused.ensures ∙ ap (all_of no_delay) (rest-of segments_max _ c.args.self.now.delays (search rules)) ∙ sym (figures-rest c.args.self.now zero)

pub returns-in-Err : goal.returns-in-Err
returns-in-Err c =
    sym (figures-refused c.args.self.now (λ z. number-some _ (c.in-Err.ensures.number ∙ sym (open-number _ _ _ _ _) ∙ z)))
