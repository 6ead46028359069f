-- 01, "The trace program": (start, end, rate)s and (start, end, delay)s, 24 bytes each.
use Rattle.std.specs.Prelude.{ℕ, zero, suc, ◌+◌, min, List, [], ◌∷◌}
use Rattle.units.specs.Limits.{segments_max}
use Rattle.units.specs.Arrays.{padded}
use Rattle.segmentation.specs.declared.RateSegment.{RateSegment}
use Rattle.segmentation.specs.declared.DelaySegment.{DelaySegment}
use Rattle.hexadecimal.specs.Numbers.{number_at}
use Rattle.layout.specs.Fields.{date_at}

-- what f reads at a place and at each place a step further, n in all
unfoldable pub rows : {A : Type 0} → (ℕ → A) → ℕ → ℕ → ℕ → List A
rows f step at zero = []
rows f step at (suc n) = f at ∷ rows f step (at + step) n

-- start, end, rate
abbrev pub rate_at : List ℕ → ℕ → RateSegment
rate_at line at = record { start = date_at line at; end = date_at line (at + 8); rate = record { 0 = number_at line (at + 16) } }

-- start, end, delay
abbrev pub delay_at : List ℕ → ℕ → DelaySegment
delay_at line at = record { start = date_at line at; end = date_at line (at + 8); delay = record { 0 = number_at line (at + 16) } }

abbrev pub no_rate : RateSegment
no_rate = record { start = record { 0 = 0 }; end = record { 0 = 0 }; rate = record { 0 = 0 } }

abbrev pub no_delay : DelaySegment
no_delay = record { start = record { 0 = 0 }; end = record { 0 = 0 }; delay = record { 0 = 0 } }

-- the n rate segments from a place on; of more than 16 the first 16, since the opening refuses the count
unfoldable pub rates_at : List ℕ → ℕ → ℕ → List RateSegment
rates_at line at n = padded segments_max no_rate (rows (rate_at line) 24 at (min segments_max n))

-- the n delay segments from a place on, likewise
unfoldable pub delays_at : List ℕ → ℕ → ℕ → List DelaySegment
delays_at line at n = padded segments_max no_delay (rows (delay_at line) 24 at (min segments_max n))
