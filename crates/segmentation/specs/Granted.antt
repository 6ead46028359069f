-- What the rules take for granted of their segments: a record's test shows it before they are called. No promise rests on it.
use Rattle.std.specs.Prelude.{ℕ, ◌+◌, ◌-◌, ◌*◌, ◌/◌, ◌<◌, ◌≤◌, ◌≡◌, List, [], ◌∷◌, eqb, Option, Some, None}
use Rattle.units.specs.Limits.{date_max, length_max, volume_max, delay_max}
use Rattle.units.specs.Logic.{pick}
use Rattle.segmentation.specs.declared.VolumeSegment.{VolumeSegment}
use Rattle.segmentation.specs.declared.DelaySegment.{DelaySegment}
use Rattle.segmentation.specs.declared.Delays.{Delays}
use Rattle.segmentation.specs.Capacity.{rate_of}

-- the segment is not empty, is within the limits, and holds its rate times its length
pub record SegOk (s : VolumeSegment) : Type 0 where
  pub some : s.start.0 < s.end.0
  pub short : s.end.0 ≤ s.start.0 + length_max
  pub date : s.end.0 ≤ date_max
  pub small : s.volume.0 ≤ volume_max
  pub whole : s.volume.0 ≡ rate_of s * (s.end.0 - s.start.0)

-- the segments follow each other without a gap, from the date on
unfoldable pub Run : ℕ → List VolumeSegment → Type 0
Run a [] = Unit
Run a (s ∷ l) = (s.start.0 ≡ a) × (SegOk s) × (Run s.end.0 l)

-- they do so from some date on
pub record Runs (l : List VolumeSegment) : Type 0 where
  pub from : ℕ
  pub run : Run from l

-- and that date is not after this one
pub record Covers (a : ℕ) (l : List VolumeSegment) : Type 0 where
  pub from : ℕ
  pub below : from ≤ a
  pub run : Run from l

-- the ticks that a size above 0 takes at a rate: rounded up in edition 2, else down
abbrev pub ticks_of : ℕ → ℕ → ℕ → ℕ
ticks_of edition v r = pick (eqb edition 2) ((v - 1) / r + 1) (v / r)

-- delays within their limits
abbrev pub Short : Option Delays → Type 0
Short (Some d) = (d.first.0 ≤ delay_max) × (d.last.0 ≤ delay_max)
Short None = Unit

-- each delay is within its limit
unfoldable pub AllShort : List DelaySegment → Type 0
AllShort [] = Unit
AllShort (d ∷ l) = (d.delay.0 ≤ delay_max) × (AllShort l)

-- the segments among which the end's lookup goes on, of all and those that the start's found
abbrev pub onward_of : ℕ → List DelaySegment → List DelaySegment → List DelaySegment
onward_of rule l first = pick (eqb rule 2) l first
