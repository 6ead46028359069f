-- `segmentation::VolumeSegment::part` meets its contract: nothing where segment and span do not meet, else the rate for each tick in common.
use Prim.Native.Nat.{◌-◌, ◌*◌, ◌<◌, ◌≤◌}
use native.Mathlib.Omega.{arith}
use Rattle.units.proofs.Compare.{le-yes, le-not}
use Rattle.segmentation.proofs.Capacity.{part-is, part-not}
use Rattle.segmentation.proofs.Segment.{share-low}
use Rattle.segmentation.proofs.VolumeSegment.part.Goals as goal
use Rattle.segmentation.proofs.VolumeSegment.part.Goals.{After-rate-rate}

-- what they share is no more than the segment has
small : (c : After-rate-rate) → c.rate-rate.result.0 * (c.sooner-hi.result.0 - c.later-lo.result.0) ≤ c.args.self.volume.0
small c =
    rw c.rate-rate.ensures (share-low c.args.self c.requires (c.sooner-hi.result.0 - c.later-lo.result.0) (omega arith))

pub returns-then-le : goal.returns-then-le
returns-then-le c =
    let none = part-not c.args.self c.requires c.args.start.0 c.args.end.0 c.later-lo.result.0 c.sooner-hi.result.0 (omega arith) (omega arith) (le-yes _ _ _ c.le.ensures c.if-le.true) in
    record { is = omega (arith, none); small = omega arith }

pub overflow_mul-result : goal.overflow_mul-result
overflow_mul-result c = record { fits = omega (arith, small (goal.at.overflow_mul-result c).After-rate-rate) }

pub returns : goal.returns
returns c =
    let left : c.later-lo.result.0 < c.sooner-hi.result.0 = le-not _ _ _ c.le.ensures c.if-le.false in
    let is = part-is c.args.self c.requires c.args.start.0 c.args.end.0 c.later-lo.result.0 c.sooner-hi.result.0 (omega arith) (omega arith) left in
    record { is = rw c.rate-rate.ensures (omega (arith, is)); small = omega (arith, small (goal.at.returns c).After-rate-rate) }
