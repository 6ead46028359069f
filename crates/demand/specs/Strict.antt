-- 02, R-7, beside demand 3: what every accepted send of a strict record is.
use Rattle.std.specs.Prelude.{◌<◌, List, [], ◌∷◌}
use Rattle.demand.specs.Calls.{Booking}

-- each booking holds an instant
unfoldable pub AllHold : List Booking → Type 0
AllHold [] = Unit
AllHold (b ∷ log) = (b.send.start.0 < b.send.end.0) × (AllHold log)
