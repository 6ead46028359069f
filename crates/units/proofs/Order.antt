-- An answer that is refused unless its tests hold, one after the other, has the number beside the first test that fails; so has a booking.
use Prim.Native.Nat.{ℕ}
use mathlib.Core.Bool.{Bool, true, false}
use mathlib.Core.Path.{◌≡◌, refl}
use mathlib.Core.List.{List, [], ◌∷◌}
use Rattle.units.specs.Logic.{unless, pick}
use Rattle.units.specs.Answer.{booking_of}
use Rattle.units.specs.Order.{Test, ◌if-not◌, first_failed}

module _ {A : Type 0} (number : A → ℕ) (n own : ℕ) (refused : A) (is : number refused ≡ n) where
  pub unless-number : (b : Bool) (l : List Test) (x : A) → number x ≡ first_failed l own → number (unless b refused x) ≡ first_failed (n if-not b ∷ l) own
  unfolding first_failed
  unless-number true l x e = e
  unless-number false l x e = is

pub none_number : (n : ℕ) → n ≡ first_failed [] n
unfolding first_failed
none_number n = refl

-- over any manager: a booking's number, then its own
module _ {A : Type 0} (number : A → ℕ) (refuse : ℕ → A) (is : (n : ℕ) → number (refuse n) ≡ n) where
  pub booking-number : (kept fits same forbidden : Bool) (done : A)
      → number (booking_of kept fits same forbidden refuse done) ≡ first_failed (1 if-not kept ∷ 2 if-not fits ∷ 9 if-not same ∷ []) (pick forbidden 17 (number done))
  unfolding first_failed
  booking-number false fits same forbidden done = is 1
  booking-number true false same forbidden done = is 2
  booking-number true true false forbidden done = is 9
  booking-number true true true true done = is 17
  booking-number true true true false done = refl
