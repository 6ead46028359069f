-- A record's list after a booking: its number, its count, its segments and its unused places.
use Prim.Native.Nat.{ℕ, ◌≤◌}
use mathlib.Core.Bool.{true}
use mathlib.Core.Path.{◌≡◌, refl, ap, ◌∙◌}
use mathlib.Core.List.{List}
use mathlib.Core.Logic.{⊎_elim, ◌⊎◌, inl, inr}
use native.Mathlib.Omega.{arith}
use lib.Dec.{leb}
use lib.ListN.{length, drop, length-take}
use borrow.Author.Tests.{leb-true}
use Rattle.units.specs.Limits.{listed_max}
use Rattle.units.specs.Logic.{both, all_of}
use Rattle.units.proofs.Logic.{unless-keeps}
use Rattle.units.proofs.Arrays.{length-padded, take-padded, unused-padded}
use Rattle.bookings.specs.declared.BookingSegment.{BookingSegment}
use Rattle.bookings.specs.declared.Bookings.{Bookings}
use Rattle.bookings.specs.declared.Set.{Set}
use Rattle.bookings.specs.Listed.{level_max, cover_ok, no_booking, listed}
use Rattle.bookings.specs.Cut.{segment, set_of, laid_of, set_bookings}
use Rattle.bookings.proofs.SetLaws.{set-cover, set-some}

-- 10 and the list as it came; 0 and a list
abbrev full : Bookings → Set
full r = record { number = 10; bookings = r }

abbrev kept : List BookingSegment → ℕ → Set
kept out k = record { number = 0; bookings = record { segments = out; count = k } }

no-segment : no_booking (segment 0 0 0) ≡ true
unfolding no_booking both
no-segment = refl

module _ (r : Bookings) (s e w : ℕ) where
  abbrev list : List BookingSegment
  list = set_of s e w (listed r)

  -- the number is 0, or it is 10 and the list stays as it came
  pub set-number : ((set_bookings r s e w).number ≡ 0) ⊎ (((set_bookings r s e w).number ≡ 10) × ((set_bookings r s e w).bookings ≡ r))
  unfolding set_bookings
  set-number =
      unless-keeps (λ (x : Set). (x.number ≡ 0) ⊎ ((x.number ≡ 10) × (x.bookings ≡ r))) (leb (length list) listed_max) (full r) (kept (laid_of list) (length list))
      (λ z. inr (refl, refl))
      (λ z. inl refl)

  pub set-stays : ((set_bookings r s e w).number ≡ 0 → ⊥) → (set_bookings r s e w).bookings ≡ r
  set-stays h = ⊎_elim (λ z. absurd (h z)) (λ z. z.1) set-number

  record Fits (x : Set) : Type 0 where
    few : length list ≤ listed_max
    is : x.bookings ≡ record { segments = laid_of list; count = length list }

  fits : (set_bookings r s e w).number ≡ 0 → Fits (set_bookings r s e w)
  unfolding set_bookings
  fits =
      unless-keeps (λ (x : Set). x.number ≡ 0 → Fits x) (leb (length list) listed_max) (full r) (kept (laid_of list) (length list))
      (λ f z. absurd (omega arith))
      (λ t z. record { few = leb-true _ _ t; is = refl })

  -- where the number is 0
  module _ (z : (set_bookings r s e w).number ≡ 0) where
    pub set-length : (set_bookings r s e w).bookings.count ≡ length (set_of s e w (listed r))
    set-length = ap (λ (b : Bookings). b.count) (fits z).is

    pub set-size : length (set_bookings r s e w).bookings.segments ≡ listed_max
    set-size = ap (λ (b : Bookings). length b.segments) (fits z).is ∙ length-padded listed_max (segment 0 0 0) list (fits z).few

    pub set-listed : listed (set_bookings r s e w).bookings ≡ set_of s e w (listed r)
    set-listed = ap (λ (b : Bookings). listed b) (fits z).is ∙ take-padded listed_max (segment 0 0 0) list _ refl

    pub set-most : (set_bookings r s e w).bookings.count ≤ listed_max
    set-most = omega (arith, set-length, (fits z).few)

    pub set-one : r.count ≤ listed_max → length r.segments ≡ listed_max → 1 ≤ r.count → 1 ≤ (set_bookings r s e w).bookings.count
    set-one h k i = let some : 1 ≤ length (listed r) = simp length-take (omega arith) in omega (arith, set-length, set-some s e w (listed r) some)

    pub set-covers : (lo hi : ℕ) → s ≤ e → w ≤ level_max → cover_ok lo hi (listed r) ≡ true → cover_ok lo hi (listed (set_bookings r s e w).bookings) ≡ true
    set-covers lo hi h k c = rw set-listed (set-cover s e w h k lo hi (listed r) c)

    pub set-unused : all_of no_booking (drop (set_bookings r s e w).bookings.count (set_bookings r s e w).bookings.segments) ≡ true
    set-unused = ap (λ (b : Bookings). all_of no_booking (drop b.count b.segments)) (fits z).is ∙ unused-padded listed_max (segment 0 0 0) no_booking list _ refl no-segment
