-- Laws of the magnitude of a sum, a product, a quotient and a difference of integers, and of what fits an i64.
use mathlib.Core.Path.{◌≡◌, refl}
use mathlib.Core.Bool.{Bool, true, false, cond}
use Prim.Native.Nat.{ℕ, zero, suc, ◌+◌, ◌*◌, ◌-◌, ◌/◌, ◌≤◌, ◌<◌, ◌^◌}
use native.Mathlib.Nat.{le_refl}
use native.Mathlib.Omega.{arith}
use lib.Dec.{T, ltb, ltb→lt}
use lib.IntN.{ℤ, pos, negsuc, neg_ℤ, nat_abs, ◌+ℤ◌, ◌-ℤ◌, ◌*ℤ◌}
use lib.Signed.{quot_z}
use mir.Syntax.{w64}
use mir.Val.{SFits}
use Rattle.poly.specs.Poly.{step_max}

pub abs_neg : (n : ℕ) → nat_abs (neg_ℤ (pos n)) ≡ n
abs_neg zero = refl
abs_neg (suc n) = refl

abs-negℤ : (z : ℤ) → nat_abs (neg_ℤ z) ≡ nat_abs z
abs-negℤ (pos n) = abs_neg n
abs-negℤ (negsuc n) = refl

pub abs-mul : (x y : ℤ) → nat_abs (x *ℤ y) ≡ nat_abs x * nat_abs y
abs-mul (pos a) (pos b) = refl
abs-mul (pos a) (negsuc b) = abs_neg _
abs-mul (negsuc a) (pos b) = abs_neg _
abs-mul (negsuc a) (negsuc b) = refl

abs-sub-suc : (t : Bool) (a b : ℕ) → nat_abs (cond t (negsuc (suc b - suc a)) (pos (a - suc b))) ≤ a + suc b
abs-sub-suc true a b = omega arith
abs-sub-suc false a b = omega arith

pub abs-add : (x y : ℤ) → nat_abs (x +ℤ y) ≤ nat_abs x + nat_abs y
abs-add (pos a) (pos b) = le_refl _
abs-add (pos a) (negsuc b) = abs-sub-suc (ltb a (suc b)) a b
abs-add (negsuc a) (pos b) = omega (arith, abs-sub-suc (ltb b (suc a)) b a)
abs-add (negsuc a) (negsuc b) = omega arith

-- the quotient's magnitude is the magnitude's quotient, since it is rounded towards zero
pub abs-quot : (c : ℤ) (k : ℕ) → nat_abs (quot_z c (pos k)) ≡ nat_abs c / k
abs-quot (pos a) k = refl
abs-quot (negsuc a) k = abs_neg _

diff-suc : (t : Bool) (x o m : ℕ) → (T t → x < suc o) → x ≤ suc o + m → suc o ≤ x + m
    → nat_abs (cond t (negsuc (suc o - suc x)) (pos (x - suc o))) ≤ m
diff-suc true x o m k h₁ h₂ = let q = k tt in omega arith
diff-suc false x o m k h₁ h₂ = omega arith

-- two dates that are at most m apart
pub abs_diff : (x o m : ℕ) → x ≤ o + m → o ≤ x + m → nat_abs (pos x -ℤ pos o) ≤ m
abs_diff x zero m h₁ h₂ = omega arith
abs_diff x (suc o) m h₁ h₂ = diff-suc (ltb x (suc o)) x o m (ltb→lt x (suc o)) h₁ h₂

-- a magnitude of at most 2^62 fits an i64
pub sfits : (z : ℤ) → nat_abs z ≤ 2 ^ 62 → SFits w64 z
sfits (pos n) h = record { sfits = omega arith }
sfits (negsuc n) h = record { sfits = omega arith }

-- the magnitude of an i64
pub abs-i64 : (z : ℤ) → SFits w64 z → nat_abs z ≤ 2 ^ 63
abs-i64 (pos n) f = omega (arith, f.sfits)
abs-i64 (negsuc n) f = omega (arith, f.sfits)

pub fits_sub : (a b : ℤ) → nat_abs a ≤ step_max → nat_abs b ≤ step_max → SFits w64 (a -ℤ b)
fits_sub a b ha hb = sfits _ (omega (arith, abs-add a (neg_ℤ b), abs-negℤ b))
