-- Over any manager: what its calls answer where no test refuses; a number that none of its answers has is never answered.
use Prim.Native.Nat.{ℕ}
use mathlib.Core.Bool.{Bool, true, false}
use mathlib.Core.Path.{◌≡◌, sym, ap, ◌∙◌}
use Rattle.units.specs.declared.Date.{Date}
use Rattle.units.specs.declared.TxData.{TxData}
use Rattle.units.specs.declared.Bundle.{Bundle}
use Rattle.units.specs.declared.Offer.{Offer}
use Rattle.units.specs.Logic.{unless}
use Rattle.units.specs.Limits.{bundle_ok}
use Rattle.units.specs.Answer.{refused, offers, booking_of}
use Rattle.units.specs.Strict.{forbids}
use Rattle.units.specs.Logged.{Calls, Never}
use Rattle.units.proofs.Logic.{unless-keeps, pick-keeps}

-- its record's test, its flag, what it answers, books and lists
pub record Tables (M : Calls) (refuse : ℕ → M.Manager → M.Booked) : Type 0 where
  pub kept : M.Manager → Bool
  pub strict : M.Manager → ℕ
  pub answer : M.Manager → Date → Bundle → Offer
  pub booked : M.Manager → Date → Bundle → M.Booked
  pub listing : M.Manager → M.Listing
  -- the promises say so
  pub dry-run-is : (r : M.Manager) (at : Date) (b : Bundle) (o : Offer) → M.dry_run r at b o → o ≡ unless (kept r) (refused 1) (unless (bundle_ok at b) (refused 2) (answer r at b))
  pub book-is : (r : M.Manager) (at : Date) (b : Bundle) (d : TxData) (a : M.Booked) → M.book r at b d a
      → a ≡ booking_of (kept r) (bundle_ok at b) (offers (unless (kept r) (refused 1) (unless (bundle_ok at b) (refused 2) (answer r at b))) d) (forbids (strict r) d.send) (λ n. refuse n r) (booked r at b)
  pub list-is : (r : M.Manager) (o : M.Listing) → M.list r o → o ≡ listing r
  pub refuse-number : (n : ℕ) (r : M.Manager) → M.number (refuse n r) ≡ n

-- a number other than 2, 9 and 17, and than 1 where the record's test fails, that none of the manager's own answers has
module _ (M : Calls) (refuse : ℕ → M.Manager → M.Booked) (t : Tables M refuse) (n : ℕ) (r : M.Manager)
    (one : t.kept r ≡ false → 1 ≡ n → ⊥) (others : (2 ≡ n → ⊥) × (9 ≡ n → ⊥) × (17 ≡ n → ⊥))
    (answers : (at : Date) (b : Bundle) → t.kept r ≡ true → bundle_ok at b ≡ true → (t.answer r at b).number ≡ n → ⊥)
    (books : (at : Date) (b : Bundle) → M.number (t.booked r at b) ≡ n → ⊥)
    (lists : M.shown (t.listing r) ≡ n → ⊥)
    (furthers : (a : M.Booked) → M.further r a → M.number a ≡ n → ⊥) where
  shown-not : (at : Date) (b : Bundle) → (unless (t.kept r) (refused 1) (unless (bundle_ok at b) (refused 2) (t.answer r at b))).number ≡ n → ⊥
  shown-not at b =
      unless-keeps (λ (o : Offer). o.number ≡ n → ⊥) (t.kept r) _ _ one
      (λ ok. unless-keeps (λ (o : Offer). o.number ≡ n → ⊥) (bundle_ok at b) _ _ (λ f. others.0) (λ fits. answers at b ok fits))

  booked-not : (fits same forbidden : Bool) (at : Date) (b : Bundle) → M.number (booking_of (t.kept r) fits same forbidden (λ k. refuse k r) (t.booked r at b)) ≡ n → ⊥
  booked-not fits same forbidden at b =
      let P : M.Booked → Type 0 = λ (a : M.Booked). M.number a ≡ n → ⊥ in
      let refusal : (k : ℕ) → (k ≡ n → ⊥) → P (refuse k r) = λ k f e. f (sym (t.refuse-number k r) ∙ e) in
      unless-keeps P (t.kept r) _ _ (λ f. refusal 1 (one f))
      (λ ok. unless-keeps P fits _ _ (λ f. refusal 2 others.0)
      (λ yes. unless-keeps P same _ _ (λ f. refusal 9 others.1)
      (λ is. pick-keeps P forbidden _ _ (λ f. refusal 17 others.2) (λ f. books at b))))

  pub tables-never : Never M n r
  tables-never =
      record {
        dry_run = λ at b o p e. shown-not at b (sym (ap (λ (x : Offer). x.number) (t.dry-run-is r at b o p)) ∙ e);
        book = λ at b d a p e. booked-not (bundle_ok at b) (offers (unless (t.kept r) (refused 1) (unless (bundle_ok at b) (refused 2) (t.answer r at b))) d) (forbids (t.strict r) d.send) at b (sym (ap (λ (x : M.Booked). M.number x) (t.book-is r at b d a p)) ∙ e);
        list = λ o p e. lists (sym (ap (λ (x : M.Listing). M.shown x) (t.list-is r o p)) ∙ e);
        further = furthers;
      }
