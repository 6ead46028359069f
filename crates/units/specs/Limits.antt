-- 01, "Numbers", and 02's choices: the limits that more than one kind of record is held to, each once; all else cites them.
use Rattle.std.specs.Prelude.{ℕ, ◌-◌, ◌^◌, Bool, leb, ltb}
use Rattle.units.specs.declared.Date.{Date}
use Rattle.units.specs.declared.Interval.{Interval}
use Rattle.units.specs.declared.Bundle.{Bundle}
use Rattle.units.specs.Logic.{both}

-- dates 0 to 2^40, volumes, sizes and rates to 2^38, delays to 2^40
abbrev pub date_max : ℕ
date_max = 2 ^ 40

abbrev pub length_max : ℕ
length_max = 2 ^ 24

abbrev pub volume_max : ℕ
volume_max = 2 ^ 38

abbrev pub rate_max : ℕ
rate_max = 2 ^ 38

abbrev pub delay_max : ℕ
delay_max = 2 ^ 40

abbrev pub priority_max : ℕ
priority_max = 127

-- at most 16 rate and 16 delay segments, 64 listed segments
abbrev pub segments_max : ℕ
segments_max = 16

abbrev pub listed_max : ℕ
listed_max = 64

-- 02, R-4 to R-6: an edition, a delay rule, a mode is 1 or 2
unfoldable pub one_or_two : ℕ → Bool
one_or_two n = both (leb 1 n) (leb n 2)

-- a window: start < end, a length of at most 2^24, dates to 2^40
unfoldable pub window_ok : Interval → Bool
window_ok w =
    both (ltb w.start.0 w.end.0)
    (both (leb w.end.0 date_max)
    (leb (w.end.0 - w.start.0) length_max))

-- the size 1 to 2^38, the priority 0 to 127
unfoldable pub load_ok : Bundle → Bool
load_ok b =
    both (leb 1 b.size.0)
    (both (leb b.size.0 volume_max)
    (leb b.priority.0 priority_max))

-- and the asked time 0 to 2^40
unfoldable pub bundle_ok : Date → Bundle → Bool
bundle_ok at b = both (leb at.0 date_max) (load_ok b)
