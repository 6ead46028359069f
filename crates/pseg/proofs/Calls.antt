-- Each call, refusal by refusal: what its definition answers where a test is known.
use Prim.Native.Nat.{ℕ}
use mathlib.Core.Bool.{true, false}
use mathlib.Core.Path.{◌≡◌, refl, sym, ap, ◌∙◌}
use lib.Dec.{leb}
use lib.ListN.{length}
use Rattle.std.specs.Prelude.{Option, Result, MatchResult}
use Rattle.std.specs.Option.{ok_or}
use Rattle.std.specs.ControlFlow.{break_value}
use Rattle.units.specs.declared.refusal.Refusal.{Refusal}
use Rattle.units.specs.declared.refusal.Refusal.TheVariants.{NoOffer}
use Rattle.units.specs.Refusal.{number_of}
use Rattle.units.specs.declared.Date.{Date}
use Rattle.units.specs.declared.Interval.{Interval}
use Rattle.units.specs.declared.TxData.{TxData}
use Rattle.units.specs.declared.Bundle.{Bundle}
use Rattle.units.specs.Limits.{listed_max, bundle_ok}
use Rattle.units.specs.Answer.{refused, offers, booking_of}
use Rattle.units.specs.Strict.{forbids}
use Rattle.units.proofs.Logic.{unless-go, unless-stop, unless-keeps}
use Rattle.contact.specs.Record.{answer_in, strict_of}
use Rattle.bookings.specs.Search.{Run}
use Rattle.std.specs.declared.ops.ControlFlow.TheVariants.{Continue, Break}
use Rattle.bookings.specs.declared.Set.{Set}
use Rattle.bookings.specs.Listed.{listed}
use Rattle.bookings.specs.Cut.{set_of, set_bookings}
use Rattle.pseg.specs.declared.PrioritySeg.{PrioritySeg}
use Rattle.pseg.specs.Record.{record_ok}
use Rattle.pseg.specs.DryRun.{dry_run_of, run_of, answer_to}
use Rattle.pseg.specs.Book.{book_of, booked_at, refused_booking}

-- a booking's own numbers are 0, 9 and 10
module _ (r : PrioritySeg) (n : ℕ) (other : (n ≡ 0 → ⊥) × (n ≡ 9 → ⊥) × (n ≡ 10 → ⊥)) where
  set-number : (s e w : ℕ) → (set_bookings r.bookings s e w).number ≡ n → ⊥
  unfolding set_bookings
  set-number s e w =
      unless-keeps (λ (x : Set). x.number ≡ n → ⊥) (leb (length (set_of s e w (listed r.bookings))) listed_max) _ _ (λ _ h. other.2 (sym h)) (λ _ h. other.0 (sym h))

  pub booked-number : (x : Run) (p : ℕ) → (booked_at r x p).number ≡ n → ⊥
  booked-number (Break send) p = set-number _ _ _
  booked-number (Continue now) p = λ h. other.1 (sym h)

module _ (r : PrioritySeg) (at : Date) (b : Bundle) where
  pub dry-record : record_ok r ≡ false → dry_run_of r at b ≡ refused 1
  unfolding dry_run_of
  dry-record e = unless-stop _ _ _ e

  pub book-record : (d : TxData) → record_ok r ≡ false → book_of r at b d ≡ refused_booking 1 r
  unfolding book_of
  book-record d e = unless-stop _ _ _ e

  module _ (ok : record_ok r ≡ true) where
    pub dry-bundle : bundle_ok at b ≡ false → dry_run_of r at b ≡ refused 2
    unfolding dry_run_of
    dry-bundle e = unless-go _ _ _ ok ∙ unless-stop _ _ _ e

    pub book-kept : (d : TxData) → book_of r at b d
        ≡ booking_of true (bundle_ok at b) (offers (dry_run_of r at b) d) (forbids (strict_of r.contact) d.send) (λ n. refused_booking n r) (booked_at r (run_of r at.0 b) b.priority.0)
    unfolding book_of
    book-kept d = unless-go _ _ _ ok

    module _ (fits : bundle_ok at b ≡ true) where
      pub dry-fits : dry_run_of r at b ≡ answer_to r (run_of r at.0 b)
      unfolding dry_run_of
      dry-fits = unless-go _ _ _ ok ∙ unless-go _ _ _ fits

      pub dry-at : (send : Interval) → run_of r at.0 b ≡ Break send → dry_run_of r at b ≡ answer_in r.contact send
      dry-at send e = dry-fits ∙ ap (answer_to r) e

      -- the run that is offered, or 7
      found-by : (x : Run) → run_of r at.0 b ≡ x → MatchResult (ok_or (break_value x) NoOffer) (λ send. (bundle_ok at b ≡ true) × (run_of r at.0 b ≡ Break send)) (λ e. dry_run_of r at b ≡ refused (number_of e))
      found-by (Break send) e = (fits, e)
      found-by (Continue now) e = dry-fits ∙ ap (answer_to r) e

      pub found-is : (o : Option Interval) → o ≡ break_value (run_of r at.0 b) → (x : Result Interval Refusal) → x ≡ ok_or o NoOffer
          → MatchResult x (λ send. (bundle_ok at b ≡ true) × (run_of r at.0 b ≡ Break send)) (λ e. dry_run_of r at b ≡ refused (number_of e))
      found-is o h x k = rw (k, h) (found-by (run_of r at.0 b) refl)
