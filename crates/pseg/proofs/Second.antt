-- Edition 2 at the priority record: an offer has a length, so no send of zero length is offered.
use Prim.Native.Nat.{ℕ, ◌<◌}
use mathlib.Core.Bool.{true}
use mathlib.Core.Path.{◌≡◌, refl}
use native.Mathlib.Omega.{arith}
use Rattle.units.specs.Limits.{bundle_ok}
use Rattle.units.specs.declared.Date.{Date}
use Rattle.units.specs.declared.Interval.{Interval}
use Rattle.units.specs.declared.Bundle.{Bundle}
use Rattle.units.specs.declared.Offer.{Offer}
use Rattle.units.proofs.Loads.{asked-load, load}
use Rattle.units.proofs.Booking.{offer-keeps}
use Rattle.segmentation.proofs.EndLaws.{end_after}
use Rattle.contact.specs.Record.{rates_of, edition_of}
use Rattle.bookings.specs.Search.{Run}
use Rattle.std.specs.declared.ops.ControlFlow.TheVariants.{Continue, Break}
use Rattle.pseg.specs.declared.PrioritySeg.{PrioritySeg}
use Rattle.pseg.specs.Record.{record_ok}
use Rattle.pseg.specs.DryRun.{run_of, answer_to, dry_run_of}
use Rattle.pseg.proofs.Facts.{Facts, facts, found-free, found-answers}

pub found_after : (r : PrioritySeg) (q : Facts r) → edition_of r.contact ≡ 2 → (t : ℕ) (b : Bundle) → 0 < b.size.0 → (send : Interval) → run_of r t b ≡ Break send
    → send.start.0 < send.end.0
found_after r q two t b pos send e =
    end_after (rates_of r.contact) send.start.0 b.size.0 pos (edition_of r.contact) _ send.end (found-free r q t b send e).ends two

module _ (r : PrioritySeg) (at : Date) (b : Bundle) (two : edition_of r.contact ≡ 2) where
  answer-after : record_ok r ≡ true → bundle_ok at b ≡ true → (x : Run) → run_of r at.0 b ≡ x → (answer_to r x).number ≡ 0
      → (answer_to r x).dates.send.start.0 < (answer_to r x).dates.send.end.0
  answer-after ok fits (Break send) e z =
      let q = facts r ok in
      let pos = (load b (asked-load at b fits)).some in
      rw (found-answers r q at.0 b send e pos).sends (found_after r q two at.0 b pos send e)
  answer-after ok fits (Continue now) e z = absurd (omega (arith, z))

  pub offer-after : (dry_run_of r at b).number ≡ 0 → (dry_run_of r at b).dates.send.start.0 < (dry_run_of r at b).dates.send.end.0
  unfolding dry_run_of
  offer-after =
      offer-keeps (λ (o : Offer). o.dates.send.start.0 < o.dates.send.end.0) (record_ok r) (bundle_ok at b) (answer_to r (run_of r at.0 b)) (λ ok fits z. answer-after ok fits _ refl z)
