-- Laws of numbers that omega does not find: one of two orders holds, and a quotient tells how large a product is.
use Prim.Native.Nat.{ℕ, zero, suc, ◌*◌, ◌/◌, ◌<◌, ◌≤◌}
use mathlib.Core.Path.{◌≡◌, sym, ◌∙◌}
use mathlib.Core.Logic.{⊎_elim, ◌⊎◌, inl, inr}
use native.Mathlib.Nat.{eq-or-lt_of_le, mul_comm, le-div_iff_mul-le, div-lt_iff_lt-mul}
use native.Mathlib.Omega.{arith}
use lib.Dec.{leb}
use borrow.Author.Tests.{le-leb, lt-leb}

pub le-or-lt : (n m : ℕ) → (n ≤ m) ⊎ (m < n)
le-or-lt zero m = inl (omega arith)
le-or-lt (suc n) zero = inr (omega arith)
le-or-lt (suc n) (suc m) = ⊎_elim (λ h. inl (omega arith)) (λ h. inr (omega arith)) (le-or-lt n m)

pub eq-or-ne : (n m : ℕ) → (n ≡ m) ⊎ (n ≡ m → ⊥)
eq-or-ne n m =
    ⊎_elim (λ h. ⊎_elim (λ e. inl e) (λ l. inr (λ e. omega arith)) (eq-or-lt_of_le h)) (λ h. inr (λ e. omega arith)) (le-or-lt n m)

-- whether a rate times a length is within a bound, by the bound's quotient: the product is not formed
module _ (most length rate : ℕ) (some : 0 < length) where
  pub product-within : rate ≤ most / length → rate * length ≤ most
  product-within = (le-div_iff_mul-le some).0

  pub product-beyond : most / length < rate → most < rate * length
  product-beyond = (div-lt_iff_lt-mul some).0

  pub product-test : leb rate (most / length) ≡ leb (length * rate) most
  product-test =
      ⊎_elim
      (λ (h : rate ≤ most / length). le-leb _ _ h ∙ sym (le-leb (length * rate) most (omega (arith, product-within h, mul_comm length rate))))
      (λ (h : most / length < rate). lt-leb _ _ h ∙ sym (lt-leb (length * rate) most (omega (arith, product-beyond h, mul_comm length rate))))
      (le-or-lt rate (most / length))
