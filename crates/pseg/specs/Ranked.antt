-- Over any calls: what a tick is booked at, and which accepted sends share one. Words of our theorems; no promise of a call rests on them.
use Rattle.std.specs.Prelude.{ℕ, ◌+◌, ◌<◌, ◌≤◌, List, [], ◌∷◌, leb, ltb}
use Rattle.units.specs.Logic.{both, pick}
use Rattle.units.specs.Logged.{Booking}

-- the level that the accepted bookings, the last one first, leave at a tick: one above the priority of the last that holds it; 0 where none does
unfoldable pub level_by : List Booking → ℕ → ℕ
level_by [] t = 0
level_by (b ∷ log) t = pick (both (leb b.send.start.0 t) (ltb t b.send.end.0)) (b.priority + 1) (level_by log t)

-- a booking shares a tick with earlier ones of lower priority only
unfoldable pub AllBelow : Booking → List Booking → Type 0
AllBelow b [] = Unit
AllBelow b (c ∷ log) =
    ((t : ℕ) → b.send.start.0 ≤ t → t < b.send.end.0 → c.send.start.0 ≤ t → t < c.send.end.0 → c.priority < b.priority) × (AllBelow b log)

-- and so does each
unfoldable pub Ranked : List Booking → Type 0
Ranked [] = Unit
Ranked (b ∷ log) = (AllBelow b log) × (Ranked log)
