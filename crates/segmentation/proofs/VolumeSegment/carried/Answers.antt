-- `segmentation::VolumeSegment::carried` meets its contract: what the ticks past leave of the volume is the rate for each that is left.
use Prim.Native.Nat.{ℕ, ◌-◌, ◌*◌, ◌≤◌}
use mathlib.Core.Path.{◌≡◌, ap, ◌∙◌}
use native.Mathlib.Omega.{arith}
use Rattle.segmentation.specs.Capacity.{rate_of}
use Rattle.segmentation.proofs.Segment.{share-low, share-rest}
use Rattle.segmentation.proofs.VolumeSegment.carried.Goals as goal
use Rattle.segmentation.proofs.VolumeSegment.carried.Goals.{After-rate-rate}

-- what is past is no more than the segment has
small : (c : After-rate-rate) → c.rate-rate.result.0 * (c.args.from.0 - c.args.self.start.0) ≤ c.args.self.volume.0
small c =
    rw c.rate-rate.ensures (share-low c.args.self c.requires.whole (c.args.from.0 - c.args.self.start.0) (omega arith))

pub overflow_mul-result : goal.overflow_mul-result
overflow_mul-result c = record { fits = omega (arith, small (goal.at.overflow_mul-result c).After-rate-rate) }

pub overflow_sub-result-2 : goal.overflow_sub-result-2
overflow_sub-result-2 c = omega (arith, small (goal.at.overflow_sub-result-2 c).After-rate-rate)

pub returns : goal.returns
returns c =
    let v = c.args.self in
    let left : v.end.0 - v.start.0 - (c.args.from.0 - v.start.0) ≡ v.end.0 - c.args.from.0 = omega arith in
    rw c.rate-rate.ensures (share-rest v c.requires.whole (c.args.from.0 - v.start.0) (omega arith) ∙ ap (λ (n : ℕ). rate_of v * n) left)
