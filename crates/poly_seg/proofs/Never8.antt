-- By rule 2 no call of the polynomial manager answers 8: the delays of a record that keeps its rules cover the window. By rule 1 it can.
use Rattle.std.specs.Prelude.{Option, Some, None}
use Prim.Native.Nat.{ℕ}
use mathlib.Core.Bool.{true}
use mathlib.Core.Path.{◌≡◌, refl}
use native.Mathlib.Omega.{arith}
use Rattle.units.specs.declared.Date.{Date}
use Rattle.units.specs.declared.TxData.{TxData}
use Rattle.units.specs.declared.Bundle.{Bundle}
use Rattle.units.specs.declared.Offer.{Offer}
use Rattle.units.specs.Limits.{bundle_ok}
use Rattle.units.specs.Answer.{refused, offers}
use Rattle.units.specs.Strict.{forbids}
use Rattle.units.proofs.Logic.{unless-keeps}
use Rattle.units.proofs.Booking.{dry-run-keeps, booking-keeps}
use Rattle.units.proofs.Loads.{asked-load, load}
use Rattle.free_list.specs.declared.Fit.{Fit}
use Rattle.poly_seg.specs.declared.PolySeg.{PolySeg}
use Rattle.poly_seg.specs.declared.Booked.{Booked}
use Rattle.poly_seg.specs.declared.Listing.{Listing}
use Rattle.poly_seg.specs.Record.{rule_of, strict_of, record_ok}
use Rattle.poly_seg.specs.DryRun.{found_of, answer_to, dry_run_of}
use Rattle.poly_seg.specs.Book.{refused_booking, booked_at, book_of}
use Rattle.poly_seg.specs.List.{list_of}
use Rattle.poly_seg.proofs.Facts.{facts, found-answers}
use Rattle.poly_seg.proofs.Calls.{booked-number}

abbrev Not8 : ℕ → Type 0
Not8 n = n ≡ 8 → ⊥

module _ (r : PolySeg) (at : Date) (b : Bundle) where
  answer-never-8 : rule_of r ≡ 2 → record_ok r ≡ true → bundle_ok at b ≡ true → (f : Option Fit) → found_of r at.0 b.size.0 ≡ f → Not8 (answer_to r f).number
  answer-never-8 two ok fits (Some x) e h = omega (arith, h, (found-answers r (facts r ok) at.0 b.size.0 (load b (asked-load at b fits)).some x.place x.send e two).number)
  answer-never-8 two ok fits None e h = omega arith

  pub dry-never-8 : rule_of r ≡ 2 → Not8 (dry_run_of r at b).number
  unfolding dry_run_of
  dry-never-8 two =
      dry-run-keeps (λ (o : Offer). Not8 o.number) (record_ok r) (bundle_ok at b) refused (λ h. omega arith) (λ h. omega arith) _
      (λ ok fits. answer-never-8 two ok fits (found_of r at.0 b.size.0) refl)

  -- a booking, by either rule: dates that were not offered are 9
  pub book-never-8 : (d : TxData) → Not8 (book_of r at b d).number
  unfolding book_of
  book-never-8 d =
      booking-keeps (λ (x : Booked). Not8 x.number) (record_ok r) (bundle_ok at b) (λ (n : ℕ). refused_booking n r) (λ h. omega arith) (λ h. omega arith)
      (offers (dry_run_of r at b) d) (forbids (strict_of r) d.send) (booked_at r (found_of r at.0 b.size.0)) (λ h. omega arith) (λ h. omega arith)
      (λ ok fits same free h. booked-number r 8 (λ z. omega arith, λ z. omega arith, λ z. omega arith) (found_of r at.0 b.size.0) h)

pub list-never-8 : (r : PolySeg) → Not8 (list_of r).number
unfolding list_of
list-never-8 r = unless-keeps (λ (x : Listing). Not8 x.number) (record_ok r) _ _ (λ f h. omega arith) (λ f h. omega arith)
