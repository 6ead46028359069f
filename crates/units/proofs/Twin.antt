-- 02, R-7, once over the manager: where its calls are 01's tables and twins differ in the flag alone, 02's sentence holds of it.
use Prim.Native.Nat.{ℕ}
use mathlib.Core.Bool.{Bool, true, false}
use mathlib.Core.Path.{◌≡◌, refl, sym, ◌∙◌}
use Rattle.units.specs.declared.Date.{Date}
use Rattle.units.specs.declared.TxData.{TxData}
use Rattle.units.specs.declared.Bundle.{Bundle}
use Rattle.units.specs.declared.Offer.{Offer}
use Rattle.units.specs.Logic.{both, unless, pick}
use Rattle.units.specs.Limits.{bundle_ok}
use Rattle.units.specs.Answer.{refused, offers, booking_of}
use Rattle.units.specs.Strict.{zero_length, forbids}
use Rattle.units.specs.Calls.{Calls}
use Rattle.units.specs.Twin.{Twins}
use Rattle.units.proofs.Logic.{no_both}
use Rattle.units.proofs.Forbids.{off-forbids, on-forbids}

-- the record's test, the bundle's and the answer else, of twins alike; a refusal and the booking of each
module _ {A : Type 0} (off on : ℕ → A) (less more : A) (turned : A → A) (refuses : (n : ℕ) → on n ≡ turned (off n)) (does : more ≡ turned less) where
  -- what is offered is so on a record that keeps its rules, for a bundle inside its limits
  twin-by : (kept fits same zero : Bool) (x : Offer) (d : TxData) → offers (unless kept (refused 1) (unless fits (refused 2) x)) d ≡ same
      → booking_of kept fits same zero on more ≡ pick (both same zero) (on 17) (turned (booking_of kept fits same false off less))
  unfolding both offers
  twin-by false fits true zero x d e = absurd (no_both refl (sym e))
  twin-by false fits false zero x d e = refuses 1
  twin-by true false true zero x d e = absurd (no_both refl (sym e))
  twin-by true false false zero x d e = refuses 2
  twin-by true true false zero x d e = refuses 9
  twin-by true true true true x d e = refl
  twin-by true true true false x d e = does

  booking-twin : (kept fits : Bool) (x : Offer) (d : TxData) → let same = offers (unless kept (refused 1) (unless fits (refused 2) x)) d in
      booking_of kept fits same (forbids 1 d.send) on more ≡ pick (both same (zero_length d.send)) (on 17) (turned (booking_of kept fits same (forbids 0 d.send) off less))
  booking-twin kept fits x d = rw (off-forbids d.send, on-forbids d.send) (twin-by kept fits _ _ x d refl)

-- the tables of a manager: its record's test, its flag, what it answers and books where no test refuses
module _ (M : Calls) (flagged : ℕ → M.Manager → M.Manager) (turned : ℕ → M.Booked → M.Booked) (refuse : ℕ → M.Manager → M.Booked) where
  pub record Tables : Type 0 where
    pub kept : M.Manager → Bool
    pub strict : M.Manager → ℕ
    pub answer : M.Manager → Date → Bundle → Offer
    pub booked : M.Manager → Date → Bundle → M.Booked
    pub listing : M.Manager → M.Listing
    -- the promises say so
    pub dry-run-is : (r : M.Manager) (at : Date) (b : Bundle) (o : Offer) → M.dry_run r at b o → o ≡ unless (kept r) (refused 1) (unless (bundle_ok at b) (refused 2) (answer r at b))
    pub book-is : (r : M.Manager) (at : Date) (b : Bundle) (d : TxData) (a : M.Booked) → M.book r at b d a
        → a ≡ booking_of (kept r) (bundle_ok at b) (offers (unless (kept r) (refused 1) (unless (bundle_ok at b) (refused 2) (answer r at b))) d) (forbids (strict r) d.send) (λ n. refuse n r) (booked r at b)
    pub list-is : (r : M.Manager) (o : M.Listing) → M.list r o → o ≡ listing r
    -- twins differ in the flag alone
    pub flag : (n : ℕ) (r : M.Manager) → strict (flagged n r) ≡ n
    pub kept-twin : (r : M.Manager) → kept (flagged 1 r) ≡ kept (flagged 0 r)
    pub answer-twin : (r : M.Manager) (at : Date) (b : Bundle) → answer (flagged 1 r) at b ≡ answer (flagged 0 r) at b
    pub booked-twin : (r : M.Manager) (at : Date) (b : Bundle) → booked (flagged 1 r) at b ≡ turned 1 (booked (flagged 0 r) at b)
    pub listing-twin : (r : M.Manager) → listing (flagged 1 r) ≡ listing (flagged 0 r)
    pub refuse-twin : (n : ℕ) (r : M.Manager) → refuse n (flagged 1 r) ≡ turned 1 (refuse n (flagged 0 r))

  pub tables-twins : Tables → Twins M flagged turned refuse
  tables-twins t =
      record {
        dry_run = λ r at b x y p q. t.dry-run-is _ at b y q ∙ shown r at b ∙ sym (t.dry-run-is _ at b x p);
        list = λ r x y p q. t.list-is _ y q ∙ t.listing-twin r ∙ sym (t.list-is _ x p);
        book = λ r at b d o x y s p q.
            rw (t.dry-run-is _ at b o s, t.book-is _ at b d x p, t.book-is _ at b d y q, t.flag 0 r, t.flag 1 r, t.kept-twin r, t.answer-twin r at b)
            (booking-twin (λ n. refuse n (flagged 0 r)) (λ n. refuse n (flagged 1 r)) (t.booked (flagged 0 r) at b) (t.booked (flagged 1 r) at b) (turned 1) (λ n. t.refuse-twin n r) (t.booked-twin r at b)
            (t.kept (flagged 0 r)) (bundle_ok at b) (t.answer (flagged 0 r) at b) d);
      }
    where
      shown : (r : M.Manager) (at : Date) (b : Bundle)
          → unless (t.kept (flagged 1 r)) (refused 1) (unless (bundle_ok at b) (refused 2) (t.answer (flagged 1 r) at b)) ≡ unless (t.kept (flagged 0 r)) (refused 1) (unless (bundle_ok at b) (refused 2) (t.answer (flagged 0 r) at b))
      shown r at b = rw (t.kept-twin r, t.answer-twin r at b)
