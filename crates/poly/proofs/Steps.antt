-- Horner's steps under the range rule: no value passes the step on magnitudes, and the rule at a distance holds at each smaller one.
use Prim.Native.Nat.{ℕ, ◌≤◌}
use native.Mathlib.Nat.{le_trans, le_refl, mul-le-mul}
use native.Mathlib.Omega.{arith}
use lib.IntN.{ℤ, pos, nat_abs, ◌*ℤ◌}
use mir.Syntax.{w64}
use mir.Val.{SFits}
use Rattle.poly.specs.Poly.{step_max, step_of, mag_of, horner_of}
use Rattle.poly.specs.Granted.{InRange}
use Rattle.poly.proofs.Abs.{abs-mul, abs-add, sfits}

-- the result of a step is bounded by the step on magnitudes
pub abs-step : (v d t : ℤ) → nat_abs (step_of v d t) ≤ mag_of (nat_abs v) (nat_abs d) t
unfolding step_of mag_of
abs-step v d t = omega (arith, abs-add (v *ℤ d) t, abs-mul v d)

-- a step on magnitudes grows with the value and the distance
pub mag-mono : {v v' m m' : ℕ} (t : ℤ) → v ≤ v' → m ≤ m' → mag_of v m t ≤ mag_of v' m' t
unfolding mag_of
mag-mono t hv hm = omega (arith, mul-le-mul hv hm)

-- the parts of a step and the step fit
module _ (v d t : ℤ) (h : mag_of (nat_abs v) (nat_abs d) t ≤ step_max) where
  pub fits-product : SFits w64 (v *ℤ d)
  unfolding mag_of
  fits-product = sfits _ (omega (arith, abs-mul v d))

  pub fits-step : SFits w64 (step_of v d t)
  fits-step = sfits _ (omega (arith, abs-step v d t))

-- the values after each step, from the highest term down
abbrev pub V3 : ℤ → ℤ → ℤ
V3 t3 d = step_of (pos 0) d t3

abbrev pub V2 : ℤ → ℤ → ℤ → ℤ
V2 t2 t3 d = step_of (V3 t3 d) d t2

abbrev pub V1 : ℤ → ℤ → ℤ → ℤ → ℤ
V1 t1 t2 t3 d = step_of (V2 t2 t3 d) d t1

abbrev pub V0 : ℤ → ℤ → ℤ → ℤ → ℤ → ℤ
V0 t0 t1 t2 t3 d = step_of (V1 t1 t2 t3 d) d t0

-- and the same on magnitudes
abbrev pub M3 : ℤ → ℕ → ℕ
M3 t3 m = mag_of 0 m t3

abbrev pub M2 : ℤ → ℤ → ℕ → ℕ
M2 t2 t3 m = mag_of (M3 t3 m) m t2

abbrev pub M1 : ℤ → ℤ → ℤ → ℕ → ℕ
M1 t1 t2 t3 m = mag_of (M2 t2 t3 m) m t1

abbrev pub M0 : ℤ → ℤ → ℤ → ℤ → ℕ → ℕ
M0 t0 t1 t2 t3 m = mag_of (M1 t1 t2 t3 m) m t0

module _ (t0 t1 t2 t3 d : ℤ) (h : InRange t0 t1 t2 t3 (nat_abs d)) where
  grows : (v : ℤ) (w : ℕ) (t : ℤ) → nat_abs v ≤ w → mag_of (nat_abs v) (nat_abs d) t ≤ mag_of w (nat_abs d) t
  grows v w t a = mag-mono t a (le_refl _)

  under : (v : ℤ) (w : ℕ) (t : ℤ) → nat_abs v ≤ w → nat_abs (step_of v d t) ≤ mag_of w (nat_abs d) t
  under v w t a = le_trans (abs-step v d t) (grows v w t a)

  a3 : nat_abs (V3 t3 d) ≤ M3 t3 (nat_abs d)
  a3 = abs-step (pos 0) d t3

  a2 : nat_abs (V2 t2 t3 d) ≤ M2 t2 t3 (nat_abs d)
  a2 = under (V3 t3 d) _ t2 a3

  a1 : nat_abs (V1 t1 t2 t3 d) ≤ M1 t1 t2 t3 (nat_abs d)
  a1 = under (V2 t2 t3 d) _ t1 a2

  a0 : nat_abs (V0 t0 t1 t2 t3 d) ≤ M0 t0 t1 t2 t3 (nat_abs d)
  a0 = under (V1 t1 t2 t3 d) _ t0 a1

  -- what each further step asks
  pub asks2 : mag_of (nat_abs (V3 t3 d)) (nat_abs d) t2 ≤ step_max
  asks2 = le_trans (grows (V3 t3 d) _ t2 a3) h.r2

  pub asks1 : mag_of (nat_abs (V2 t2 t3 d)) (nat_abs d) t1 ≤ step_max
  asks1 = le_trans (grows (V2 t2 t3 d) _ t1 a2) h.r1

  pub asks0 : mag_of (nat_abs (V1 t1 t2 t3 d)) (nat_abs d) t0 ≤ step_max
  asks0 = le_trans (grows (V1 t1 t2 t3 d) _ t0 a1) h.r0

  pub horner-bound : nat_abs (horner_of t0 t1 t2 t3 d *ℤ d) ≤ step_max
  unfolding horner_of
  horner-bound = rw abs-mul (le_trans (mul-le-mul a0 (le_refl (nat_abs d))) h.last)

  pub horner-fits : SFits w64 (horner_of t0 t1 t2 t3 d *ℤ d)
  horner-fits = sfits _ (omega (arith, horner-bound))

-- no term passes the limit
module _ (t0 t1 t2 t3 : ℤ) (m : ℕ) (h : InRange t0 t1 t2 t3 m) where
  pub small0 : nat_abs t0 ≤ step_max
  unfolding mag_of
  small0 = omega (arith, h.r0)

  pub small1 : nat_abs t1 ≤ step_max
  unfolding mag_of
  small1 = omega (arith, h.r1)

  pub small2 : nat_abs t2 ≤ step_max
  unfolding mag_of
  small2 = omega (arith, h.r2)

  pub small3 : nat_abs t3 ≤ step_max
  unfolding mag_of
  small3 = omega (arith, h.r3)

-- the range rule at a distance holds at each smaller one
module _ (t0 t1 t2 t3 : ℤ) {m m' : ℕ} (le : m ≤ m') where
  g3 : M3 t3 m ≤ M3 t3 m'
  g3 = mag-mono t3 (le_refl 0) le

  g2 : M2 t2 t3 m ≤ M2 t2 t3 m'
  g2 = mag-mono t2 g3 le

  g1 : M1 t1 t2 t3 m ≤ M1 t1 t2 t3 m'
  g1 = mag-mono t1 g2 le

  g0 : M0 t0 t1 t2 t3 m ≤ M0 t0 t1 t2 t3 m'
  g0 = mag-mono t0 g1 le

  pub range_mono : InRange t0 t1 t2 t3 m' → InRange t0 t1 t2 t3 m
  range_mono h = record {
    r3 = le_trans g3 h.r3;
    r2 = le_trans g2 h.r2;
    r1 = le_trans g1 h.r1;
    r0 = le_trans g0 h.r0;
    last = le_trans (mul-le-mul g0 le) h.last;
  }
