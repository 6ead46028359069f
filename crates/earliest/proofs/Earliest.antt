-- R-8 over the definition of the dry run: on a record that keeps its rules and has no empty segment, for a bundle inside its limits, the answer is the earliest place.
use Prim.Native.Nat.{ℕ, ◌<◌, ◌≤◌}
use mathlib.Core.Bool.{true}
use mathlib.Core.Path.{◌≡◌, refl}
use mathlib.Core.Logic.{inl, inr}
use native.Mathlib.Omega.{arith}
use borrow.Author.Tests.{eqb-true}
use Rattle.units.specs.declared.Date.{Date}
use Rattle.units.specs.declared.TxData.{TxData}
use Rattle.units.specs.declared.Bundle.{Bundle}
use Rattle.units.specs.declared.Offer.{Offer}
use Rattle.units.specs.Limits.{bundle_ok}
use Rattle.units.specs.Answer.{same_dates, offers}
use Rattle.units.proofs.Logic.{both-fst, both-snd}
use Rattle.units.proofs.Loads.{asked-load, load}
use Rattle.bookings.specs.Search.{Run}
use Rattle.std.specs.declared.ops.ControlFlow.TheVariants.{Continue, Break}
use Rattle.std.specs.Prelude.{Some, None}
use Rattle.bookings.specs.Listed.{level_at, listed}
use Rattle.pseg.specs.declared.PrioritySeg.{PrioritySeg}
use Rattle.pseg.specs.Record.{record_ok}
use Rattle.pseg.specs.DryRun.{run_of, answer_to, dry_run_of}
use Rattle.pseg.proofs.Facts.{Facts, facts}
use Rattle.pseg.proofs.Calls.{dry-fits}
use Rattle.earliest.specs.Start.{Start, Least}
use Rattle.earliest.specs.Earliest.{end_from, StartIn, NoEmpty, Earliest}
use Rattle.earliest.specs.Rest.{Rest}
use Rattle.earliest.proofs.Search.{Tells, search-tells}
use Rattle.earliest.proofs.Values.{level-below, below-level, start-as, tells_as}
use Rattle.earliest.proofs.Unique.{least-unique}
use Rattle.earliest.proofs.Found.{rule, sent, rest-by}

module _ (r : PrioritySeg) (at : Date) (b : Bundle) where
  module _ (o : Offer) where
    -- an offer at the least start
    pub offer-earliest : o.number ≡ 0 → Least (StartIn r at b) o.dates.send.start.0 → Earliest r at b o
    offer-earliest zero q =
        record {
          offer = λ s. (λ x. rw x.1 at q, λ x. (zero, least-unique (StartIn r at b) _ s q x));
          none = (λ x. absurd (omega arith), λ x. absurd (x _ q.is));
          either = inl zero;
        }

    -- no offer where there is no start
    none-earliest : o.number ≡ 7 → ((s : ℕ) → StartIn r at b s → ⊥) → Earliest r at b o
    none-earliest seven q =
        record {
          offer = λ s. (λ x. absurd (omega (arith, x.0)), λ x. absurd (q s x.is));
          none = (λ x. q, λ x. omega arith);
          either = inr seven;
        }

    -- dates that match such an answer start there: so does what is booked by them
    pub offered-earliest : Earliest r at b o → (d : TxData) → offers o d ≡ true → Least (StartIn r at b) d.send.start.0
    unfolding offers same_dates
    offered-earliest h d e =
        let dates = both-snd _ _ e in
        (h.offer d.send.start.0).0 (eqb-true _ _ (both-fst _ _ e), eqb-true _ _ (both-fst _ _ dates))

  module _ (ok : record_ok r ≡ true) (some : 0 < b.size.0) (none : NoEmpty r) where
    -- what the search tells of the starts
    pub run-tells : Tells (StartIn r at b) (run_of r at.0 b)
    run-tells =
        let k : Facts r = facts r ok in
        let p = b.priority.0 in
        let lo = r.contact.window.start.0 in
        let hi = r.contact.window.end.0 in
        let level = level_at (listed r.bookings) in
        tells_as (Start (end_from r b) (λ (u : ℕ). level u ≤ p) lo hi at.0) (StartIn r at b)
        (λ s. start-as (end_from r b) _ _ lo hi at.0 s (λ u. level-below p (level u)))
        (λ s. start-as (end_from r b) _ _ lo hi at.0 s (λ u. below-level p (level u)))
        (run_of r at.0 b)
        (search-tells (end_from r b) lo hi at.0 p (listed r.bookings) (rule r b ok some) k.cover none)

    earliest-by : (x : Run) → run_of r at.0 b ≡ x → Tells (StartIn r at b) x → Earliest r at b (answer_to r x)
    unfolding Tells
    earliest-by (Break send) e q = offer-earliest (answer_to r (Break send)) (sent r b ok some at send e).number (rw (sent r b ok some at send e).sends q)
    earliest-by (Continue (Some send)) e q = none-earliest (answer_to r (Continue (Some send))) refl q
    earliest-by (Continue None) e q = none-earliest (answer_to r (Continue None)) refl q

  -- the dry run's answer is the earliest place, and the rest of it is 01's
  pub dry-earliest : record_ok r ≡ true → NoEmpty r → bundle_ok at b ≡ true → (Earliest r at b (dry_run_of r at b)) × (Rest r b (dry_run_of r at b))
  dry-earliest ok none fits =
      let some : 0 < b.size.0 = (load b (asked-load at b fits)).some in
      let run = run_of r at.0 b in
      rw (dry-fits r at b ok fits) (earliest-by ok some none run refl (run-tells ok some none), rest-by r b ok some at run refl)
