-- Simpson's rule, exact for cubics: a tick's integral by the rates at its start, middle and end. Where no rate is negative the integral never falls.
use Prim.Native.Nat.{ℕ, zero, suc, ◌+◌, ◌-◌, ◌*◌, ◌≤◌, ◌<◌}
use mathlib.Core.Bool.{true, false}
use mathlib.Core.List.{[], ◌∷◌}
use mathlib.Core.Path.{◌≡◌, refl, sym, ap, ◌∙◌}
use native.Mathlib.Nat.{add-zero}
use native.Mathlib.Omega.{arith}
use borrow.Author.Tests.{ltb-true, lt-ltb, le-ltb}
use lib.IntN.{ℤ, pos, negsuc, nat_abs, ◌+ℤ◌, ◌-ℤ◌, ◌*ℤ◌, +ℤ_invr, pos-ne-negsuc}
use lib.Signed.{lt_z}
use Rattle.units.proofs.Logic.{no_both}
use Rattle.poly.specs.Integral.{integral12, rate8}
use Rattle.poly.proofs.Letters.{num, var, ◌⊕◌, ◌⊖◌, ◌⊗◌, equal}
use Rattle.poly.proofs.Sides.{integral-side, half-side}
use Rattle.poly.proofs.Order.{less-trans, less-shift}

-- the rule, with the integral in twelfths, the rates in eighths and the dates of the rates in half ticks
pub simpson : (c0 c1 c2 c3 d : ℤ)
    → pos 4 *ℤ (integral12 c0 c1 c2 c3 (d +ℤ pos 1) -ℤ integral12 c0 c1 c2 c3 d)
    ≡ rate8 c0 c1 c2 c3 (d +ℤ d) +ℤ pos 4 *ℤ rate8 c0 c1 c2 c3 (d +ℤ d +ℤ pos 1) +ℤ rate8 c0 c1 c2 c3 (d +ℤ d +ℤ pos 2)
unfolding integral12 rate8
simpson c0 c1 c2 c3 d =
    let x = var 4 in
    equal (c0 ∷ c1 ∷ c2 ∷ c3 ∷ d ∷ []) (num 4 ⊗ (integral-side (x ⊕ num 1) ⊖ integral-side x))
    (half-side (x ⊕ x) ⊕ num 4 ⊗ half-side (x ⊕ x ⊕ num 1) ⊕ half-side (x ⊕ x ⊕ num 2))
    refl

-- what is not below 0 is a natural number, and so is its fourth part
whole : (z : ℤ) → lt_z z (pos 0) ≡ false → z ≡ pos (nat_abs z)
whole (pos n) h = refl
whole (negsuc n) h = absurd (no_both refl h)

fourth : (z : ℤ) (m : ℕ) → pos 4 *ℤ z ≡ pos m → (k : ℕ) × (z ≡ pos k) × (4 * k ≡ m)
fourth (pos n) m e = (n, refl, ap nat_abs e)
fourth (negsuc n) m e = let q : 4 * suc n ≡ suc (4 * n + 3) = omega arith in absurd (pos-ne-negsuc m _ (sym (rw q at e)))

-- what is above 0 is at least 1
some : (z : ℤ) → lt_z (pos 0) z ≡ true → 0 < nat_abs z
some (pos n) h = ltb-true 0 n h
some (negsuc n) h = omega arith

-- v is m above u: the order tells it, and such steps add up
module _ (u v : ℤ) (m : ℕ) (e : v -ℤ u ≡ pos m) where
  not-below : lt_z v u ≡ false
  not-below = sym (less-shift v u u) ∙ rw (e, +ℤ_invr u) (le-ltb m 0 (omega arith))

  above : 0 < m → lt_z u v ≡ true
  above h = sym (less-shift u v u) ∙ rw (e, +ℤ_invr u) (lt-ltb 0 m h)

  add-up : (w : ℤ) (n : ℕ) → w -ℤ v ≡ pos n → w -ℤ u ≡ pos (m + n)
  add-up w n f =
      equal (u ∷ v ∷ w ∷ []) (var 2 ⊖ var 0) ((var 1 ⊖ var 0) ⊕ (var 2 ⊖ var 1)) refl ∙ rw (e, f)

module _ (c0 c1 c2 c3 : ℤ) (o : ℕ) where
  -- twelve times the integral from the offset to a date, and eight times the rate at a date in half ticks
  abbrev pub to : ℕ → ℤ
  to x = integral12 c0 c1 c2 c3 (pos x -ℤ pos o)

  abbrev pub rate : ℕ → ℤ
  rate h = rate8 c0 c1 c2 c3 (pos h -ℤ pos (2 * o))

  -- Simpson's rule over the tick at i
  tick : (i : ℕ) → pos 4 *ℤ (to (i + 1) -ℤ to i) ≡ rate (2 * i) +ℤ pos 4 *ℤ rate (2 * i + 1) +ℤ rate (2 * i + 2)
  tick i =
      let same = equal (pos i ∷ pos o ∷ []) in
      let x = var 0 ⊖ var 1 in
      let h = num 2 ⊗ var 0 in
      let z = num 2 ⊗ var 1 in
      rw (
        same (var 0 ⊕ num 1 ⊖ var 1) (x ⊕ num 1) refl,
        same (h ⊖ z) (x ⊕ x) refl,
        same (h ⊕ num 1 ⊖ z) (x ⊕ x ⊕ num 1) refl,
        same (h ⊕ num 2 ⊖ z) (x ⊕ x ⊕ num 2) refl,
      )
      (simpson c0 c1 c2 c3 (pos i -ℤ pos o))

  -- no rate from a to b, half ticks included, is negative: each is a natural number
  module _ (a b : ℕ) (never : (h : ℕ) → 2 * a ≤ h → h ≤ 2 * b → lt_z (rate h) (pos 0) ≡ false) where
    known : (h : ℕ) → 2 * a ≤ h → h ≤ 2 * b → rate h ≡ pos (nat_abs (rate h))
    known h k l = whole (rate h) (never h k l)

    -- what a tick adds: a natural number, and not 0 where its first rate is not
    gain : (i : ℕ) → a ≤ i → i < b
        → (k : ℕ) × (to (i + 1) -ℤ to i ≡ pos k) × (4 * k ≡ nat_abs (rate (2 * i)) + 4 * nat_abs (rate (2 * i + 1)) + nat_abs (rate (2 * i + 2)))
    gain i h l =
        fourth _ _
        (tick i ∙ rw (known (2 * i) (omega arith) (omega arith), known (2 * i + 1) (omega arith) (omega arith), known (2 * i + 2) (omega arith) (omega arith)))

    -- what k ticks add
    gains : (k i : ℕ) → a ≤ i → i + k ≤ b → (m : ℕ) × (to (i + k) -ℤ to i ≡ pos m)
    gains zero i h l = (0, rw (add-zero i) (+ℤ_invr (to i)))
    gains (suc k) i h l =
        let g = gains k i h (omega arith) in
        let s = gain (i + k) (omega arith) (omega arith) in
        let q : i + suc k ≡ i + k + 1 = omega arith in
        (g.0 + s.0, rw q (add-up (to i) (to (i + k)) g.0 g.1 (to (i + k + 1)) s.0 s.1))

    -- the integral never falls
    pub stays : (i j : ℕ) → a ≤ i → i ≤ j → j ≤ b → lt_z (to j) (to i) ≡ false
    stays i j h k l =
        let q : i + (j - i) ≡ j = omega arith in
        let g = gains (j - i) i h (omega arith) in
        rw q at (not-below (to i) (to (i + (j - i))) g.0 g.1)

    -- and it rises where the rate is positive at each tick
    pub rises : ((i : ℕ) → a ≤ i → i ≤ b → lt_z (pos 0) (rate (2 * i)) ≡ true)
        → (i j : ℕ) → a ≤ i → i < j → j ≤ b → lt_z (to i) (to j) ≡ true
    rises always i zero h k l = absurd (omega arith)
    rises always i (suc j) h k l =
        let s = gain j (omega arith) (omega arith) in
        let p = some (rate (2 * j)) (always j (omega arith) (omega arith)) in
        let q : j + 1 ≡ suc j = omega arith in
        less-trans (to i) (to j) (to (suc j)) (stays i j h (omega arith) (omega arith))
        (rw q at (above (to j) (to (j + 1)) s.0 s.1 (omega (arith, s.2, p))))
