-- 01, "Records": a send interval is [send start, send end), and its instants are its ticks; bookings inside a window.
use Rattle.std.specs.Prelude.{ℕ, ◌<◌, ◌≤◌, List, [], ◌∷◌}
use Rattle.units.specs.declared.Interval.{Interval}
use Rattle.units.specs.Logged.{Booking}

-- [a, b) and [c, d) share no tick
abbrev pub Apart : ℕ → ℕ → ℕ → ℕ → Type 0
Apart a b c d = (t : ℕ) → a ≤ t → t < b → c ≤ t → t < d → ⊥

-- each booking is inside the window
unfoldable pub AllIn : Interval → List Booking → Type 0
AllIn w [] = Unit
AllIn w (b ∷ log) =
    (w.start.0 ≤ b.send.start.0) × (b.send.start.0 ≤ b.send.end.0) × (b.send.end.0 ≤ w.end.0) × (AllIn w log)
