-- 01, "Refusal numbers" 4 and 5, and "Records": lists of rate, volume and delay segments.
use Rattle.std.specs.Prelude.{ℕ, ◌-◌, ◌*◌, Bool, List, [], ◌∷◌, leb, ltb, eqb, take}
use Rattle.units.specs.declared.Interval.{Interval}
use Rattle.units.specs.Logic.{both, all_of}
use Rattle.units.specs.Limits.{segments_max, delay_max}
use Rattle.segmentation.specs.declared.RateSegment.{RateSegment}
use Rattle.segmentation.specs.declared.VolumeSegment.{VolumeSegment}
use Rattle.segmentation.specs.declared.DelaySegment.{DelaySegment}
use Rattle.segmentation.specs.Capacity.{rate_of}
-- an unused place is zero
unfoldable pub use Rattle.segmentation.specs.Blank.{no_volume, no_delay}

abbrev pub rate_span : RateSegment → Interval
rate_span s = record { start = s.start; end = s.end }

abbrev pub volume_span : VolumeSegment → Interval
volume_span s = record { start = s.start; end = s.end }

abbrev pub delay_span : DelaySegment → Interval
delay_span s = record { start = s.start; end = s.end }

-- the segments are exactly [a, b): none empty or backward, no gap, the last one ending at b
unfoldable pub spans : {A : Type 0} → (A → Interval) → ℕ → ℕ → List A → Bool
spans span a b [] = eqb a b
spans span a b (s ∷ l) =
    both (eqb (span s).start.0 a) (both (ltb (span s).start.0 (span s).end.0) (spans span (span s).end.0 b l))

-- refusal 4: the count is 1 to 16, and the first so many segments are exactly the window
unfoldable pub covers : {A : Type 0} → (A → Interval) → Interval → ℕ → List A → Bool
covers span w n l = both (leb 1 n) (both (leb n segments_max) (spans span w.start.0 w.end.0 (take n l)))

abbrev pub delay_ok : DelaySegment → Bool
delay_ok s = leb s.delay.0 delay_max

-- refusal 5: the same of the delays, and each delay inside its limits
unfoldable pub delays_ok : Interval → ℕ → List DelaySegment → Bool
delays_ok w n l = both (covers delay_span w n l) (all_of delay_ok (take n l))

-- a rate segment kept as a volume segment: the rate times the length
abbrev pub volume_of : RateSegment → VolumeSegment
volume_of s = record { start = s.start; end = s.end; volume = record { 0 = s.rate.0 * (s.end.0 - s.start.0) } }

-- the rate segment that a volume segment keeps
abbrev pub rate_segment : VolumeSegment → RateSegment
rate_segment s = record { start = s.start; end = s.end; rate = record { 0 = rate_of s } }

-- the volume is the rate times the length
abbrev pub whole_of : VolumeSegment → Bool
whole_of s = eqb s.volume.0 (rate_of s * (s.end.0 - s.start.0))

abbrev pub zero_volume : VolumeSegment
zero_volume = record { start = record { 0 = 0 }; end = record { 0 = 0 }; volume = record { 0 = 0 } }

abbrev pub zero_delay : DelaySegment
zero_delay = record { start = record { 0 = 0 }; end = record { 0 = 0 }; delay = record { 0 = 0 } }
