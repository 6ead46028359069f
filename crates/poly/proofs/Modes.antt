-- The two modes: the capacity to a date is Horner's rule over the mode's terms, times the distance; a size is some size in both.
use Prim.Native.Nat.{ℕ, ◌*◌, ◌/◌, ◌≤◌}
use mathlib.Core.Bool.{Bool, true, false}
use mathlib.Core.List.{[], ◌∷◌}
use mathlib.Core.Path.{◌≡◌, refl, fun_ext}
use native.Mathlib.Nat.{le_refl}
use native.Mathlib.Omega.{arith}
use borrow.Author.Tests.{eq-eqb, ne_eqb}
use lib.IntN.{ℤ, pos, ◌-ℤ◌, ◌*ℤ◌}
use lib.Signed.{quot_z}
use Rattle.units.specs.Logic.{pick}
use Rattle.poly.specs.declared.Polynome.{Polynome}
use Rattle.poly.specs.Integral.{integral12}
use Rattle.poly.specs.Poly.{exact, term_of, step_of, horner_of, capacity_to}
use Rattle.poly.specs.Search.{wanted_of}
use Rattle.poly.specs.Granted.{terms_of, capacity_by}
use Rattle.poly.proofs.Letters.{num, var, ◌⊗◌, equal}
use Rattle.poly.proofs.Sides.{integral-side, horner-side}

-- Horner's rule over the twelvefold terms is twelve times the integral
pub integral-horner : (c0 c1 c2 c3 d : ℤ)
    → integral12 c0 c1 c2 c3 d ≡ horner_of (pos 12 *ℤ c0) (pos 6 *ℤ c1) (pos 4 *ℤ c2) (pos 3 *ℤ c3) d *ℤ d
unfolding integral12 horner_of step_of
integral-horner c0 c1 c2 c3 d =
    equal (c0 ∷ c1 ∷ c2 ∷ c3 ∷ d ∷ []) (integral-side (var 4))
    (horner-side (num 12 ⊗ var 0) (num 6 ⊗ var 1) (num 4 ⊗ var 2) (num 3 ⊗ var 3) (var 4) ⊗ var 4)
    refl

module _ (c0 c1 c2 c3 d : ℤ) where
  by_mode : (b : Bool)
      → pick b (integral12 c0 c1 c2 c3 d) (horner_of (quot_z c0 (pos 1)) (quot_z c1 (pos 2)) (quot_z c2 (pos 3)) (quot_z c3 (pos 4)) d *ℤ d)
      ≡ horner_of (pick b (pos 12 *ℤ c0) (quot_z c0 (pos 1))) (pick b (pos 6 *ℤ c1) (quot_z c1 (pos 2))) (pick b (pos 4 *ℤ c2) (quot_z c2 (pos 3))) (pick b (pos 3 *ℤ c3) (quot_z c3 (pos 4))) d *ℤ d
  by_mode true = integral-horner c0 c1 c2 c3 d
  by_mode false = refl

-- the capacity to a date is Horner's rule over the terms
module _ (mode : ℕ) (p : Polynome) where
  by-terms : (x : ℕ) → capacity_to mode p x ≡ capacity_by (terms_of mode p) x
  unfolding capacity_to capacity_by term_of
  by-terms x = by_mode _ _ _ _ (pos x -ℤ pos p.offset.0) (exact mode)

  pub capacity-terms : capacity_to mode p ≡ capacity_by (terms_of mode p)
  capacity-terms = fun_ext by-terms

-- the term of a coefficient, in each mode
module _ {mode : ℕ} (c : ℤ) (k : ℕ) where
  pub term-exact : mode ≡ 2 → term_of mode c k ≡ pos (12 / k) *ℤ c
  unfolding term_of
  term-exact e = rw (eq-eqb mode 2 e)

  pub term-ported : (mode ≡ 2 → ⊥) → term_of mode c k ≡ quot_z c (pos k)
  unfolding term_of
  term-ported n = rw (ne_eqb mode 2 n)

-- a size in the exact mode
module _ {mode : ℕ} (v : ℕ) where
  pub wanted-exact : mode ≡ 2 → wanted_of mode v ≡ 12 * v
  unfolding wanted_of
  wanted-exact e = rw (eq-eqb mode 2 e)

  pub wanted-ported : (mode ≡ 2 → ⊥) → wanted_of mode v ≡ v
  unfolding wanted_of
  wanted-ported n = rw (ne_eqb mode 2 n)

-- a size is at least 1 in either mode, and at most twelve times itself
more : (b : Bool) (v : ℕ) → 1 ≤ v → 1 ≤ pick b (12 * v) v
more true v h = omega arith
more false v h = h

most : (b : Bool) (v : ℕ) → pick b (12 * v) v ≤ 12 * v
most true v = le_refl _
most false v = omega arith

pub wanted-most : (mode v : ℕ) → wanted_of mode v ≤ 12 * v
unfolding wanted_of
wanted-most mode v = most (exact mode) v

pub wanted-some : (mode v : ℕ) → 1 ≤ v → 1 ≤ wanted_of mode v
unfolding wanted_of
wanted-some mode v h = more (exact mode) v h
