-- Laws of the integers' order as a test: it is transitive, antisymmetric, asymmetric, and a difference from a common number keeps it.
use Prim.Native.Nat.{ℕ, zero, suc, ◌+◌}
use mathlib.Core.Bool.{Bool, true, false, cond}
use mathlib.Core.Path.{◌≡◌, refl, sym, ap, ◌∙◌}
use native.Mathlib.Omega.{arith}
use borrow.Author.Tests.{ltb-true, ltb-false, lt-ltb, le-ltb}
use lib.Dec.{ltb, leb-suc-suc}
use lib.IntN.{ℤ, pos, negsuc, neg_ℤ, ◌-ℤ◌, neg_ℤ-+ℤ, neg_ℤ-neg_ℤ, +ℤ_assoc, +ℤ_comm, -ℤ-+ℤ_cancel}
use lib.Signed.{lt_z}
use Rattle.units.proofs.Logic.{no_both}

pub less-antisym : (a b : ℤ) → lt_z a b ≡ false → lt_z b a ≡ false → a ≡ b
less-antisym (pos a) (pos b) h k = ap pos (omega (arith, ltb-false a b h, ltb-false b a k))
less-antisym (pos a) (negsuc b) h k = absurd (no_both refl k)
less-antisym (negsuc a) (pos b) h k = absurd (no_both refl h)
less-antisym (negsuc a) (negsuc b) h k = ap negsuc (omega (arith, ltb-false b a h, ltb-false a b k))

-- a is not above b, and b is below c
pub less-trans : (a b c : ℤ) → lt_z b a ≡ false → lt_z b c ≡ true → lt_z a c ≡ true
less-trans (pos a) (pos b) (pos c) h k = lt-ltb a c (omega (arith, ltb-false b a h, ltb-true b c k))
less-trans (pos a) (pos b) (negsuc c) h k = absurd (no_both k refl)
less-trans (pos a) (negsuc b) c h k = absurd (no_both refl h)
less-trans (negsuc a) b (pos c) h k = refl
less-trans (negsuc a) (pos b) (negsuc c) h k = absurd (no_both k refl)
less-trans (negsuc a) (negsuc b) (negsuc c) h k = lt-ltb c a (omega (arith, ltb-false a b h, ltb-true c b k))

pub less-asym : (a b : ℤ) → lt_z a b ≡ true → lt_z b a ≡ false
less-asym (pos a) (pos b) h = le-ltb b a (omega (arith, ltb-true a b h))
less-asym (pos a) (negsuc b) h = absurd (no_both h refl)
less-asym (negsuc a) (pos b) h = refl
less-asym (negsuc a) (negsuc b) h = le-ltb a b (omega (arith, ltb-true b a h))

less-cond : (b : Bool) (m n : ℕ) → lt_z (cond b (negsuc m) (pos n)) (pos 0) ≡ b
less-cond true m n = refl
less-cond false m n = le-ltb n 0 (omega arith)

-- a number is below another where the difference is below 0
less_zero : (a b : ℤ) → lt_z (a -ℤ b) (pos 0) ≡ lt_z a b
less_zero (pos a) (pos zero) = le-ltb (a + 0) 0 (omega arith) ∙ sym (le-ltb a 0 (omega arith))
less_zero (pos a) (pos (suc b)) = less-cond (ltb a (suc b)) _ _
less_zero (pos a) (negsuc b) = le-ltb (a + suc b) 0 (omega arith)
less_zero (negsuc a) (pos zero) = less-cond (ltb 0 (suc a)) _ _ ∙ lt-ltb 0 (suc a) (omega arith)
less_zero (negsuc a) (pos (suc b)) = refl
less_zero (negsuc a) (negsuc b) = less-cond (ltb (suc b) (suc a)) _ _ ∙ leb-suc-suc (suc b) a

pub same-apart : (a b k : ℤ) → (a -ℤ k) -ℤ (b -ℤ k) ≡ a -ℤ b
same-apart a b k =
    rw (neg_ℤ-+ℤ b (neg_ℤ k), neg_ℤ-neg_ℤ k, +ℤ_comm (neg_ℤ b) k, ← +ℤ_assoc (a -ℤ k) k (neg_ℤ b), -ℤ-+ℤ_cancel a k)

pub less-shift : (a b k : ℤ) → lt_z (a -ℤ k) (b -ℤ k) ≡ lt_z a b
less-shift a b k = sym (less_zero (a -ℤ k) (b -ℤ k)) ∙ ap (λ (z : ℤ). lt_z z (pos 0)) (same-apart a b k) ∙ less_zero a b
