-- `poly_seg::find_offer` meets its contract.
use Prim.Native.Nat.{ℕ}
use mathlib.Core.Path.{sym, ap, ◌∙◌}
use Rattle.units.specs.Answer.{interval}
use Rattle.units.proofs.Loop.{at-whole}
use Rattle.contact.specs.Segments.{zero_volume}
use Rattle.free_list.specs.Offer.{fit_at}
use Rattle.free_list.proofs.ListedLaws.{listed-true}
use Rattle.poly_seg.proofs.Facts.{listed-inside}
use Rattle.poly_seg.proofs.Picked.{loop-first, search-none, search-found, search-on}
use Rattle.poly_seg.proofs.find_offer.Goals as goal

pub end_in-requires-clause-inside : goal.end_in-requires-clause-inside
end_in-requires-clause-inside c =
    listed-inside _ _ _ _ _ zero_volume c.loop-place-test.true (listed-true _ _ _ _ c.requires.ruled)

pub loop-place-preserved : goal.loop-place-preserved
loop-place-preserved c =
    search-on _ _ _ _ _ c.loop-place.invariant _ (at-whole _ _ zero_volume c.loop-place-test.true) (sym c.end_in.ensures ∙ c.in_default.is)

pub returns : goal.returns
returns c = sym (search-none _ _ _ _ _ c.loop-place.invariant c.loop-place-test.false) ∙ loop-first _ _ _ _

pub returns-in-loop-place : goal.returns-in-loop-place
returns-in-loop-place c =
    ap (λ (x : ℕ). fit_at c.loop-place.place (interval x c.in-Some.end.0)) c.later-start.ensures
    ∙ sym (search-found _ _ _ _ _ c.loop-place.invariant _ (at-whole _ _ zero_volume c.loop-place-test.true) _ (sym c.end_in.ensures ∙ c.in-Some.is))
    ∙ loop-first _ _ _ _
