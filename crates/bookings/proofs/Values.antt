-- A stored level for a value from -1 to 127: what the tests of the code say of the value.
use Prim.Native.Nat.{ℕ, zero, suc, ◌+◌, ◌<◌, ◌≤◌}
use mathlib.Core.Path.{◌≡◌, refl, sym, ap, ◌∙◌}
use mathlib.Core.Logic.{⊎_elim}
use native.Mathlib.Omega.{arith}
use native.Mathlib.Numerals.{add-one}
use lib.Dec.{ltb, ltb→lt, lt→ltb}
use lib.IntN.{pos}
use lib.Signed.{le_z, ◌<ℤ◌, lt_z_yes}
use borrow.Author.Tests.{le-leb, lt-leb, lt-ltb, le-ltb}
use Rattle.units.proofs.Numbers.{le-or-lt}
use Rattle.bookings.specs.declared.Level.{Level}
use Rattle.bookings.specs.Listed.{value_of}

-- a level breaks a run of a priority where its value is at least the priority
pub value-breaks : (p : ℕ) (w : Level) → le_z (pos p) (value_of w) ≡ ltb p w.0
value-breaks p w = at w.0
  where
    at : (n : ℕ) → le_z (pos p) (value_of (record { 0 = n })) ≡ ltb p n
    at zero = sym (le-ltb p 0 (omega arith))
    at (suc n) =
        ⊎_elim
        (λ (h : p ≤ n). let k : p < suc n = omega arith in rw (le-leb p n h, lt-ltb p (suc n) k) refl)
        (λ (h : n < p). let k : suc n ≤ p = omega arith in rw (lt-leb p n h, le-ltb p (suc n) k) refl)
        (le-or-lt p n)

-- the level that a priority is booked at has the priority for its value
pub value-of : (p : ℕ) (w : Level) → w.0 ≡ p + 1 → value_of w ≡ pos p
value-of p w e = let k : w.0 ≡ suc p = e ∙ add-one p in ap (λ (n : ℕ). value_of (record { 0 = n })) k

-- a value is below a priority exactly if its level is at most that priority
pub level-below : (p n : ℕ) → n ≤ p → value_of (record { 0 = n }) <ℤ pos p
level-below p zero h = lt_z_yes tt
level-below p (suc n) h = lt_z_yes (lt→ltb n p (omega arith))

pub below-level : (p n : ℕ) → value_of (record { 0 = n }) <ℤ pos p → n ≤ p
below-level p zero h = omega arith
below-level p (suc n) h = omega (arith, ltb→lt n p h.lt)
