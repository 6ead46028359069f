-- The search for the first place whose date is not before another: the state of its loop; and what it finds among the first so many of an array, from a place on.
use Prim.Native.Nat.{ℕ, ◌+◌, ◌-◌, ◌<◌, ◌≤◌}
use mathlib.Core.Path.{◌≡◌, ◌∙◌}
use mathlib.Core.List.{List}
use mathlib.Core.Logic.{⊎_elim}
use native.Mathlib.Omega.{arith}
use lib.ListN.{length, take, drop, get_or, length-take, length-drop}
use lib.Seq.{get_or-take, get_or-drop, length-take-le}
use Rattle.units.proofs.Numbers.{le-or-lt}
use Rattle.bookings.specs.declared.BookingSegment.{BookingSegment}
use Rattle.bookings.specs.Granted.{zero_booking, First}

-- no segment before place i stops it
abbrev pub Passed : (BookingSegment → ℕ) → List BookingSegment → ℕ → ℕ → Type 0
Passed date l t i = (k : ℕ) → k < i → date (get_or l k zero_booking) < t

module _ (date : BookingSegment → ℕ) (l : List BookingSegment) (t : ℕ) where
  pub look-first : Passed date l t 0
  look-first k h = absurd (omega arith)

  module _ (i : ℕ) (q : Passed date l t i) where
    pub look-end : length l ≤ i → First date l t (length l)
    look-end h = record { low = omega arith; before = λ k a. q k (omega arith); here = λ k. absurd (omega arith) }

    pub look-here : i < length l → t ≤ date (get_or l i zero_booking) → First date l t i
    look-here lt h = record { low = omega arith; before = q; here = λ k. h }

    pub look-on : date (get_or l i zero_booking) < t → Passed date l t (i + 1)
    look-on h k a =
        ⊎_elim
        (λ (c : i ≤ k). let e : k ≡ i = omega arith in rw e h)
        (λ (c : k < i). q k c)
        (le-or-lt i k)

-- of the first n segments, those from one place to place r have a date before t, and the one at r does not
pub record Between (date : BookingSegment → ℕ) (l : List BookingSegment) (n from t r : ℕ) : Type 0 where
  pub high : from ≤ r
  pub low : r ≤ n
  pub before : (i : ℕ) → from ≤ i → i < r → date (get_or l i zero_booking) < t
  pub here : r < n → t ≤ date (get_or l r zero_booking)

-- the segments before place r end by the date, and the one there after it
abbrev pub EndedIn : List BookingSegment → ℕ → ℕ → ℕ → Type 0
EndedIn l n t r = Between (λ g. g.end.0) l n 0 (t + 1) r

-- the segments from one place to place r start before the date, and the one there does not
abbrev pub BegunIn : List BookingSegment → ℕ → ℕ → ℕ → ℕ → Type 0
BegunIn l n from t r = Between (λ g. g.start.0) l n from t r

-- what is found among those from a place on
module _ (date : BookingSegment → ℕ) (l : List BookingSegment) (n from t r : ℕ) (le : from ≤ n) (fits : n ≤ length l) (q : First date (take (n - from) (drop from l)) t r) where
  len : length (take (n - from) (drop from l)) ≡ n - from
  len = simp (length-take, length-drop) (omega arith)

  at : (i : ℕ) → i < n - from → get_or (take (n - from) (drop from l)) i zero_booking ≡ get_or l (from + i) zero_booking
  at i h = get_or-take (n - from) (drop from l) i zero_booking h ∙ get_or-drop from l i zero_booking

  pub found-in : Between date l n from t (from + r)
  found-in =
      let low = q.low in
      record {
        high = omega arith;
        low = omega (arith, len);
        before = λ i a b.
            let e : from + (i - from) ≡ i = omega arith in
            let h = q.before (i - from) (omega arith) in
            rw (← e) (rw (at (i - from) (omega (arith, len))) at h);
        here = λ b.
            let lt : r < n - from = omega arith in
            rw (at r lt) at (q.here (omega (arith, len)));
      }

-- and among the first so many
module _ (date : BookingSegment → ℕ) (l : List BookingSegment) (n t r : ℕ) (fits : n ≤ length l) (q : First date (take n l) t r) where
  first-len : length (take n l) ≡ n
  first-len = length-take-le n l fits

  pub found-first : Between date l n 0 t r
  found-first =
      let low = q.low in
      record {
        high = omega arith;
        low = omega (arith, first-len);
        before = λ i a b. let lt : i < n = omega (arith, first-len) in rw (get_or-take n l i zero_booking lt) at (q.before i b);
        here = λ b. rw (get_or-take n l r zero_booking b) at (q.here (omega (arith, first-len)));
      }
