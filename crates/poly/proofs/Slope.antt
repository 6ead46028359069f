-- `integral12` is twelve times the integral of the rate: 0 at 0, and from x to y it is y - x times a mean that is twelve times the rate where y is x.
use mathlib.Core.List.{[], ◌∷◌}
use mathlib.Core.Path.{◌≡◌, refl}
use lib.IntN.{ℤ, pos, ◌+ℤ◌, ◌-ℤ◌, ◌*ℤ◌}
use Rattle.poly.specs.Integral.{integral12, rate_at, mean12, rate8}
use Rattle.poly.proofs.Letters.{num, var, ◌⊕◌, ◌⊖◌, ◌⊗◌, equal}
use Rattle.poly.proofs.Sides.{integral-side, rate-side, mean-side, half-side}

module _ (c0 c1 c2 c3 : ℤ) where
  pub integral-none : integral12 c0 c1 c2 c3 (pos 0) ≡ pos 0
  unfolding integral12
  integral-none = equal (c0 ∷ c1 ∷ c2 ∷ c3 ∷ []) (integral-side (num 0)) (num 0) refl

  pub integral-apart : (x y : ℤ) → integral12 c0 c1 c2 c3 y -ℤ integral12 c0 c1 c2 c3 x ≡ mean12 c0 c1 c2 c3 x y *ℤ (y -ℤ x)
  unfolding integral12 mean12
  integral-apart x y =
      let p = var 4 in
      let q = var 5 in
      equal (c0 ∷ c1 ∷ c2 ∷ c3 ∷ x ∷ y ∷ []) (integral-side q ⊖ integral-side p) (mean-side p q ⊗ (q ⊖ p)) refl

  pub mean-at : (x : ℤ) → mean12 c0 c1 c2 c3 x x ≡ pos 12 *ℤ rate_at c0 c1 c2 c3 x
  unfolding mean12 rate_at
  mean-at x = equal (c0 ∷ c1 ∷ c2 ∷ c3 ∷ x ∷ []) (mean-side (var 4) (var 4)) (num 12 ⊗ rate-side (var 4)) refl

  -- at a whole tick, `rate8` is eight times the rate
  pub rate-at : (x : ℤ) → rate8 c0 c1 c2 c3 (x +ℤ x) ≡ pos 8 *ℤ rate_at c0 c1 c2 c3 x
  unfolding rate8 rate_at
  rate-at x = equal (c0 ∷ c1 ∷ c2 ∷ c3 ∷ x ∷ []) (half-side (var 4 ⊕ var 4)) (num 8 ⊗ rate-side (var 4)) refl
