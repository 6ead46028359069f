-- No call of the free-volume manager answers 8, by either delay rule: on a record that keeps its rules both lookups find a segment.
use Prim.Native.Nat.{ℕ}
use mathlib.Core.Bool.{true}
use mathlib.Core.Path.{◌≡◌, refl}
use mathlib.Core.List.{List}
use native.Mathlib.Omega.{arith}
use lib.Dec.{eqb}
use Rattle.units.specs.declared.Date.{Date}
use Rattle.units.specs.declared.Interval.{Interval}
use Rattle.units.specs.declared.TxData.{TxData}
use Rattle.units.specs.declared.Bundle.{Bundle}
use Rattle.units.specs.declared.Offer.{Offer}
use Rattle.units.specs.Limits.{bundle_ok}
use Rattle.units.specs.Answer.{refused, offers}
use Rattle.units.specs.Strict.{forbids}
use Rattle.units.proofs.Logic.{unless-keeps}
use Rattle.units.proofs.Booking.{dry-run-keeps, booking-keeps}
use Rattle.units.proofs.Loads.{asked-load, load}
use Rattle.segmentation.specs.declared.RateSegment.{RateSegment}
use Rattle.segmentation.specs.declared.DelaySegment.{DelaySegment}
use Rattle.contact.specs.declared.Choices.{Choices}
use Rattle.contact.specs.declared.Opened.{Opened as ContactOpened}
use Rattle.contact.specs.Open.{open_contact}
use Rattle.contact.specs.Record.{strict_of}
use Rattle.contact.proofs.Refusals.{opening-never-8}
use Rattle.free_list.specs.declared.Fit.{Fit}
use Rattle.std.specs.Prelude.{Option, Some, None}
use Rattle.seg.specs.declared.FreeVolume.{FreeVolume}
use Rattle.seg.specs.declared.Opened.{Opened}
use Rattle.seg.specs.declared.Booked.{Booked}
use Rattle.seg.specs.declared.Listing.{Listing}
use Rattle.seg.specs.declared.RoomLeft.{RoomLeft}
use Rattle.seg.specs.Record.{record_ok}
use Rattle.seg.specs.Open.{opened_of, open_of}
use Rattle.seg.specs.DryRun.{found_of, answer_to, dry_run_of}
use Rattle.seg.specs.Book.{refused_booking, booked_at, book_of}
use Rattle.seg.specs.List.{list_of}
use Rattle.seg.specs.Room.{room_answer}
use Rattle.seg.proofs.Facts.{facts, found-answers}
use Rattle.seg.proofs.Calls.{booked-number}

abbrev Not8 : ℕ → Type 0
Not8 n = n ≡ 8 → ⊥

module _ (r : FreeVolume) (at : Date) (b : Bundle) where
  answer-never-8 : record_ok r ≡ true → bundle_ok at b ≡ true → (f : Option Fit) → found_of r at.0 b.size.0 ≡ f → Not8 (answer_to r f).number
  answer-never-8 ok fits (Some x) e h = omega (arith, h, (found-answers r (facts r ok) at.0 b.size.0 (load b (asked-load at b fits)).some x.place x.send e).number)
  answer-never-8 ok fits None e h = omega arith

  pub dry-never-8 : Not8 (dry_run_of r at b).number
  unfolding dry_run_of
  dry-never-8 =
      dry-run-keeps (λ (o : Offer). Not8 o.number) (record_ok r) (bundle_ok at b) refused (λ h. omega arith) (λ h. omega arith) _
      (λ ok fits. answer-never-8 ok fits (found_of r at.0 b.size.0) refl)

  pub book-never-8 : (d : TxData) → Not8 (book_of r at b d).number
  unfolding book_of
  book-never-8 d =
      booking-keeps (λ (x : Booked). Not8 x.number) (record_ok r) (bundle_ok at b) (λ (n : ℕ). refused_booking n r) (λ h. omega arith) (λ h. omega arith)
      (offers (dry_run_of r at b) d) (forbids (strict_of r.contact) d.send) (booked_at r (found_of r at.0 b.size.0) b.size.0) (λ h. omega arith) (λ h. omega arith)
      (λ ok fits same free h. booked-number r 8 (λ z. omega arith, λ z. omega arith, λ z. omega arith) (found_of r at.0 b.size.0) b.size.0 h)

module _ (r : FreeVolume) where
  pub list-never-8 : Not8 (list_of r).number
  unfolding list_of
  list-never-8 = unless-keeps (λ (x : Listing). Not8 x.number) (record_ok r) _ _ (λ f h. omega arith) (λ f h. omega arith)

  pub room-never-8 : Not8 (room_answer r).number
  unfolding room_answer
  room-never-8 = unless-keeps (λ (x : RoomLeft). Not8 x.number) (record_ok r) _ _ (λ f h. omega arith) (λ f h. omega arith)

opened-never-8 : (w : Interval) (o : ContactOpened) → Not8 o.number → Not8 (opened_of w o).number
opened-never-8 w o n = unless-keeps (λ (x : Opened). Not8 x.number) (eqb o.number 0) _ _ (λ f. n) (λ f h. omega arith)

pub open-never-8 : (h : Choices) (w : Interval) (rates : List RateSegment) (m : ℕ) (delays : List DelaySegment) (k : ℕ) → Not8 (open_of h w rates m delays k).number
unfolding open_of
open-never-8 h w rates m delays k =
    opened-never-8 w (open_contact h w rates m delays k) (opening-never-8 h w rates m delays k)
