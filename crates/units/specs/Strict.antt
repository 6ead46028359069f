-- 02, R-7: the strict flag that a record names, 0 off and 1 on, and which sends it forbids.
use Rattle.std.specs.Prelude.{ℕ, Bool, leb, eqb}
use Rattle.units.specs.declared.Interval.{Interval}
use Rattle.units.specs.Logic.{both}

-- refusal 2 at an opening, before all else: another value than off or on
unfoldable pub strict_ok : ℕ → Bool
strict_ok strict = leb strict 1

-- send start and end are equal
abbrev pub zero_length : Interval → Bool
zero_length send = eqb send.start.0 send.end.0

-- refusal 17: under the flag such an offer is not booked
unfoldable pub forbids : ℕ → Interval → Bool
forbids strict send = both (eqb strict 1) (zero_length send)
