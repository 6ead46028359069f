-- 01, "Records": the exact capacity of [a, b) is the sum, over its ticks, of the rate in force.
use Rattle.std.specs.Prelude.{ℕ, zero, suc, ◌+◌, ◌-◌, ◌/◌, max, List, [], ◌∷◌, leb, ltb}
use Rattle.units.specs.Logic.{both, pick}
use Rattle.segmentation.specs.declared.VolumeSegment.{VolumeSegment}

-- a volume segment holds its rate times its length
abbrev pub rate_of : VolumeSegment → ℕ
rate_of s = s.volume.0 / (s.end.0 - s.start.0)

-- the rate in force at a tick: that of the segment with start <= tick < end, 0 where there is none
unfoldable pub rate_at : List VolumeSegment → ℕ → ℕ
rate_at [] t = 0
rate_at (s ∷ l) t = pick (both (leb s.start.0 t) (ltb t s.end.0)) (rate_of s) (rate_at l t)

-- the sum over the n ticks from a on
unfoldable pub cap_of : List VolumeSegment → ℕ → ℕ → ℕ
cap_of l a zero = 0
cap_of l a (suc n) = cap_of l a n + rate_at l (a + n)

-- the exact capacity of [a, b)
abbrev pub capacity : List VolumeSegment → ℕ → ℕ → ℕ
capacity l a b = cap_of l a (b - a)

-- R, the contact's highest rate (demand 3)
unfoldable pub top_of : List VolumeSegment → ℕ
top_of [] = 0
top_of (s ∷ l) = max (rate_of s) (top_of l)
