-- R-8 over the definition of the booking: an accepted one starts at the earliest place; and the whole booking is told by the dry run's answer, without the search.
use mathlib.Core.Bool.{Bool, true, false}
use mathlib.Core.Path.{◌≡◌, refl, sym, ap, ◌∙◌}
use Rattle.units.specs.declared.Date.{Date}
use Rattle.units.specs.declared.TxData.{TxData}
use Rattle.units.specs.declared.Bundle.{Bundle}
use Rattle.units.specs.declared.Offer.{Offer}
use Rattle.units.specs.Limits.{bundle_ok}
use Rattle.units.specs.Answer.{offers, booking_of}
use Rattle.units.specs.Strict.{forbids}
use Rattle.units.proofs.Logic.{unless-go, unless-stop}
use Rattle.contact.specs.Record.{strict_of}
use Rattle.bookings.specs.Search.{Run}
use Rattle.std.specs.declared.ops.ControlFlow.TheVariants.{Break}
use Rattle.pseg.specs.declared.PrioritySeg.{PrioritySeg}
use Rattle.pseg.specs.declared.Booked.{Booked}
use Rattle.pseg.specs.Record.{record_ok}
use Rattle.pseg.specs.DryRun.{dry_run_of}
use Rattle.pseg.specs.Book.{book_of, booked_of, booked_at, refused_booking}
use Rattle.pseg.proofs.Calls.{book-kept}
use Rattle.pseg.proofs.ByDryRun.{shown-found}
use Rattle.pseg.proofs.Kept.{book-accepted}
use Rattle.earliest.specs.Start.{Least}
use Rattle.earliest.specs.Earliest.{StartIn, NoEmpty, Earliest}
use Rattle.earliest.specs.Rest.{Rest}
use Rattle.earliest.proofs.Search.{Tells}
use Rattle.earliest.proofs.Unique.{whole_unique}
use Rattle.earliest.proofs.Earliest.{run-tells, dry-earliest}

module _ (r : PrioritySeg) (at : Date) (b : Bundle) (d : TxData) (ok : record_ok r ≡ true) (none : NoEmpty r) where
  pub book-earliest : (book_of r at b d).number ≡ 0 → Least (StartIn r at b) d.send.start.0
  unfolding Tells
  book-earliest zero =
      let q = book-accepted r at b d ok zero in
      let tells : Tells (StartIn r at b) (Break d.send) = rw q.found at (run-tells r at b ok q.some none) in
      tells

  module _ (fits : bundle_ok at b ≡ true) where
    -- 9 unless the dry run answers 0 with these dates, 17 where the flag forbids them; else their send interval is set to the priority, or 10
    abbrev told : Offer → Booked
    told o = booking_of true true (offers o d) (forbids (strict_of r.contact) d.send) (λ n. refused_booking n r) (booked_of r d.send b.priority.0)

    told-by : (same : Bool) → offers (dry_run_of r at b) d ≡ same → book_of r at b d ≡ told (dry_run_of r at b)
    told-by true e =
        book-kept r at b ok d ∙ unless-go _ _ _ fits
        ∙ ap (λ (x : Run). booking_of true true (offers (dry_run_of r at b) d) (forbids (strict_of r.contact) d.send) (λ n. refused_booking n r) (booked_at r x b.priority.0)) (shown-found r at b d ok e)
    told-by false e = book-kept r at b ok d ∙ unless-go _ _ _ fits ∙ unless-stop _ _ _ e ∙ sym (unless-stop _ _ _ e)

    -- for whatever answer is the earliest place, with 01's rest
    pub book-told : (o : Offer) → Earliest r at b o → Rest r b o
        → book_of r at b d ≡ booking_of true true (offers o d) (forbids (strict_of r.contact) d.send) (λ n. refused_booking n r) (booked_of r d.send b.priority.0)
    book-told o h k =
        let q = dry-earliest r at b ok none fits in
        told-by (offers (dry_run_of r at b) d) refl ∙ ap told (whole_unique r at b (dry_run_of r at b) o q.0 h q.1 k)
