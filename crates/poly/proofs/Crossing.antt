-- What the halving answers, of any function: a date at which the target is reached, and one tick earlier it is not, unless it is met exactly.
use Prim.Native.Nat.{ℕ, ◌+◌, ◌-◌, ◌≤◌, ◌<◌}
use mathlib.Core.Bool.{true, false}
use mathlib.Core.Path.{◌≡◌, refl, sym, ◌∙◌, ap}
use mathlib.Core.Logic.{⊎_elim, ◌⊎◌, inl, inr}
use native.Mathlib.Nat.{le_refl, eq-or-lt_of_le}
use native.Mathlib.Omega.{arith}
use lib.IntN.{ℤ}
use lib.Signed.{lt_z}
use Rattle.units.proofs.Logic.{no_both}
use Rattle.poly.specs.Search.{middle}
use Rattle.poly.proofs.Halving.{Halves, empty, up, down, hit}
use Rattle.poly.proofs.Order.{less-antisym, less-trans}

module _ (f : ℕ → ℤ) (t : ℤ) where
  -- two dates of which one falls short are two
  apart : (i j : ℕ) → lt_z (f i) t ≡ true → lt_z (f j) t ≡ false → i ≡ j → ⊥
  apart i j h k e = no_both (ap (λ (n : ℕ). lt_z (f n) t) (sym e) ∙ h) k

  halves-low : {low top r : ℕ} → Halves f t low top r → low ≤ r
  halves-low (empty a) = le_refl _
  halves-low (up a _ h) = omega (arith, halves-low h)
  halves-low (down a _ _ h) = halves-low h
  halves-low (hit a _ _) = omega arith

  halves-top : {low top r : ℕ} → low ≤ top → Halves f t low top r → r ≤ top
  halves-top le (empty a) = le
  halves-top le (up a _ h) = halves-top (omega arith) h
  halves-top le (down a _ _ h) = omega (arith, halves-top (omega arith) h)
  halves-top le (hit a _ _) = omega arith

  -- never the first date, which falls short
  pub halves-after : {low top r : ℕ} → low < top → lt_z (f low) t ≡ true → Halves f t low top r → low < r
  halves-after lt s (empty a) = absurd (omega arith)
  halves-after lt s (up a _ h) = omega (arith, halves-low h)
  halves-after {low} {top} lt s (down a p _ h) = halves-after (omega (arith, apart low (middle low top) s p)) s h
  halves-after {low} {top} lt s (hit a p _) = omega (arith, apart low (middle low top) s p)

  -- never past the last date, which reaches the target
  by_top : {low top z r : ℕ} → low ≤ top → lt_z (f top) t ≡ false → Halves f t low z r → z ≡ top + 1 → r ≤ top
  by_top le s (empty a) e = absurd (omega arith)
  by_top {low} {top} {z} le s (up a p h) e = by_top (omega (arith, apart (middle low z) top p s)) s h e
  by_top le s (down a _ _ h) e = omega (arith, halves-top (omega arith) h)
  by_top le s (hit a _ _) e = omega arith

  pub halves-by : {low top r : ℕ} → low ≤ top → lt_z (f top) t ≡ false → Halves f t low (top + 1) r → r ≤ top
  halves-by le s h = by_top le s h refl

  -- the target is reached
  pub halves-reach : {low top r : ℕ} → Halves f t low top r → r < top → lt_z (f r) t ≡ false
  halves-reach (empty a) lt = absurd (omega arith)
  halves-reach (up a _ h) lt = halves-reach h lt
  halves-reach (down a p _ h) lt =
      ⊎_elim (λ e. ap (λ (n : ℕ). lt_z (f n) t) e ∙ p) (λ l. halves-reach h l) (eq-or-lt_of_le (halves-top (omega arith) h))
  halves-reach (hit a p _) lt = p

  -- it is met exactly, or one tick earlier it is not reached
  pub halves-tight : {low top r : ℕ} → Halves f t low top r → low < r → (f r ≡ t) ⊎ (lt_z (f (r - 1)) t ≡ true)
  halves-tight (empty a) lt = absurd (omega arith)
  halves-tight (up {low} {top} {r} a p h) lt =
      ⊎_elim
      (λ (e : middle low top + 1 ≡ r). let q : r - 1 ≡ middle low top = omega arith in inr (ap (λ (n : ℕ). lt_z (f n) t) q ∙ p))
      (λ (l : middle low top + 1 < r). halves-tight h l)
      (eq-or-lt_of_le (halves-low h))
  halves-tight (down a _ _ h) lt = halves-tight h lt
  halves-tight (hit a p q) lt = inl (less-antisym _ _ p q)

  -- where the function never falls before r, no earlier date reaches the target
  pub before-tight : {x r : ℕ} → ((i j : ℕ) → x ≤ i → i ≤ j → j < r → lt_z (f j) (f i) ≡ false) → lt_z (f (r - 1)) t ≡ true
      → (i : ℕ) → x ≤ i → i < r → lt_z (f i) t ≡ true
  before-tight {x} {r} rises s i h k = less-trans (f i) (f (r - 1)) t (rises i (r - 1) h (omega arith) (omega arith)) s
