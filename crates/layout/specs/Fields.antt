-- 01, "The trace program": what stands at a place of a frame. Places are counted in bytes, the kind stands at 0.
use Rattle.std.specs.Prelude.{ℕ, ◌+◌, ◌*◌, Bool, List, eqb, length}
use Rattle.units.specs.declared.Date.{Date}
use Rattle.units.specs.declared.Interval.{Interval}
use Rattle.units.specs.declared.TxData.{TxData}
use Rattle.units.specs.declared.Bundle.{Bundle}
use Rattle.hexadecimal.specs.Digits.{byte_at}
use Rattle.hexadecimal.specs.Numbers.{number_at}

-- the line has n bytes: two digits each
unfoldable pub has_bytes : List ℕ → ℕ → Bool
has_bytes line n = eqb (length line) (2 * n)

abbrev pub date_at : List ℕ → ℕ → Date
date_at line at = record { 0 = number_at line at }

-- start, end
abbrev pub interval_at : List ℕ → ℕ → Interval
interval_at line at = record { start = date_at line at; end = date_at line (at + 8) }

-- send start, send end, receive start, receive end
abbrev pub dates_at : List ℕ → ℕ → TxData
dates_at line at = record { send = interval_at line at; recv = interval_at line (at + 16) }

-- size, priority
abbrev pub bundle_at : List ℕ → ℕ → Bundle
bundle_at line at = record { size = record { 0 = number_at line at }; priority = record { 0 = byte_at line (at + 8) } }
