-- 01, "Records": an unused place is zero.
use Rattle.std.specs.Prelude.{Bool, eqb}
use Rattle.units.specs.Logic.{both}
use Rattle.segmentation.specs.declared.VolumeSegment.{VolumeSegment}
use Rattle.segmentation.specs.declared.DelaySegment.{DelaySegment}

unfoldable pub no_volume : VolumeSegment → Bool
no_volume s = both (eqb s.start.0 0) (both (eqb s.end.0 0) (eqb s.volume.0 0))

unfoldable pub no_delay : DelaySegment → Bool
no_delay s = both (eqb s.start.0 0) (both (eqb s.end.0 0) (eqb s.delay.0 0))
