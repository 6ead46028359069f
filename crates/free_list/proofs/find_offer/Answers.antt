-- `free_list::find_offer` meets its contract.
use Prim.Native.Nat.{ℕ, ◌<◌, ◌≤◌}
use mathlib.Core.Path.{◌≡◌, sym, ap, ◌∙◌}
use lib.ListN.{length, get_or}
use Rattle.units.specs.Answer.{interval}
use Rattle.units.proofs.Loop.{at-whole}
use Rattle.segmentation.specs.End.{end_of}
use Rattle.contact.specs.Segments.{zero_volume}
use Rattle.free_list.specs.Offer.{Rule, fit_at, offer_of}
use Rattle.free_list.proofs.ListedLaws.{Listed, listed-true, listed-low}
use Rattle.free_list.proofs.OneLoop.{loop_of, search-none, search-found, search-on, offer-is-loop}
use Rattle.free_list.proofs.find_offer.Goals as goal
use Rattle.free_list.proofs.find_offer.Goals.{Start}

abbrev rule : (c : Start) → Rule
rule c = end_of c.args.edition.0 c.args.rates.now

kept : (c : Start) → Listed c.args.rates.now c.requires.ruled.from c.requires.ruled.to c.args.free.now
kept c = listed-true _ _ _ _ c.requires.ruled.rules

-- the offer is what the loop finds
asked : (c : Start) → loop_of (rule c) c.args.asked.0 c.args.size.0 0 c.args.free.now ≡ offer_of (rule c) c.args.free.now c.args.asked.0 c.args.size.0
asked c = offer-is-loop _ _ _ _ _ _ _ (kept c)

-- each segment starts in the window
inside : (c : Start) (i : ℕ) → i < length c.args.free.now → c.requires.ruled.from ≤ (get_or c.args.free.now i zero_volume).start.0
inside c i lt = listed-low _ _ _ _ _ zero_volume lt (kept c)

pub end_in-requires : goal.end_in-requires
end_in-requires c =
    let q = c.requires.ruled in
    record { sized = c.requires.sized; covered = record { from = q.from; below = inside (goal.at.end_in-requires c).Start c.loop-place.place c.loop-place-test.true; run = q.run } }

pub loop-place-preserved : goal.loop-place-preserved
loop-place-preserved c =
    search-on _ _ _ _ _ c.loop-place.invariant _ (at-whole _ _ zero_volume c.loop-place-test.true) (sym c.end_in.ensures ∙ c.in_default.is)

pub returns : goal.returns
returns c = sym (search-none _ _ _ _ _ c.loop-place.invariant c.loop-place-test.false) ∙ asked (goal.at.returns c).Start

pub returns-in-loop-place : goal.returns-in-loop-place
returns-in-loop-place c =
    ap (λ (x : ℕ). fit_at c.loop-place.place (interval x c.in-Some.end.0)) c.later-start.ensures
    ∙ sym (search-found _ _ _ _ _ c.loop-place.invariant _ (at-whole _ _ zero_volume c.loop-place-test.true) _ (sym c.end_in.ensures ∙ c.in-Some.is))
    ∙ asked (goal.at.returns-in-loop-place c).Start
