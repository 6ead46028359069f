-- One segment's rate: what it carries and the ticks that a size takes stay inside its own volume and length.
use Prim.Native.Nat.{ℕ, zero, suc, ◌+◌, ◌-◌, ◌*◌, ◌/◌, ◌<◌, ◌≤◌}
use mathlib.Core.Path.{◌≡◌, ap, ◌∙◌}
use native.Mathlib.Nat.{zero-mul, mul_comm, mul-add, mul-le-mul_left, div-le_of_le-mul}
use native.Mathlib.Omega.{arith}
use Rattle.segmentation.specs.declared.VolumeSegment.{VolumeSegment}
use Rattle.segmentation.specs.Granted.{SegOk}
use Rattle.segmentation.specs.Capacity.{rate_of}

-- a product that is above 0 has a first factor above 0
pub pos-left : (r n v : ℕ) → 0 < v → v ≤ r * n → 0 < r
pos-left zero n v p h = omega (arith, zero-mul n)
pos-left (suc r) n v p h = omega arith

module _ (s : VolumeSegment) (ok : SegOk s) where
  -- no more ticks than it has carry no more than its volume
  pub share-low : (n : ℕ) → n ≤ s.end.0 - s.start.0 → rate_of s * n ≤ s.volume.0
  share-low n h = omega (arith, ok.whole, mul-le-mul_left (rate_of s) h)

  -- what n ticks leave of its volume, the others carry
  pub share-rest : (n : ℕ) → n ≤ s.end.0 - s.start.0 → s.volume.0 - rate_of s * n ≡ rate_of s * (s.end.0 - s.start.0 - n)
  share-rest n h =
      let k : ℕ = s.end.0 - s.start.0 - n in
      let all : s.end.0 - s.start.0 ≡ n + k = omega arith in
      let each : rate_of s * (s.end.0 - s.start.0) ≡ rate_of s * n + rate_of s * k = ap (λ (m : ℕ). rate_of s * m) all ∙ mul-add (rate_of s) n k in
      omega (arith, ok.whole, each)

  -- a segment that carries something has a rate
  pub rate-some : (v : ℕ) → 0 < v → v ≤ s.volume.0 → 0 < rate_of s
  rate-some v p h = pos-left (rate_of s) (s.end.0 - s.start.0) v p (omega (arith, ok.whole))

  -- no more than its volume takes no more ticks than it has
  pub time-low : (v : ℕ) → v ≤ s.volume.0 → v / rate_of s ≤ s.end.0 - s.start.0
  time-low v h = div-le_of_le-mul (rate_of s) (omega (arith, ok.whole, mul_comm (rate_of s) (s.end.0 - s.start.0)))
