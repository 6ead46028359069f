-- 02, R-8, its sentence over ticks alone: from which ticks a bundle can be sent, and which of them is the least.
use Rattle.std.specs.Prelude.{ℕ, ◌<◌, ◌≤◌, ◌≡◌}
use Rattle.units.specs.declared.Date.{Date}
use Rattle.std.specs.Prelude.{Option, Some}

-- s is a start for a bundle asked at t: E is the end rule from a tick, lo and hi are the window's ends, and Below says that a tick is booked below the priority
pub record Start (E : ℕ → Option Date) (Below : ℕ → Type 0) (lo hi t s : ℕ) : Type 0 where
  -- not before the asked time
  pub asked : t ≤ s
  -- and inside the window
  pub inside : (lo ≤ s) × (s < hi)
  -- the end rule gives an end from s
  pub end : Date
  pub ends : E s ≡ Some end
  -- by the window's end
  pub by : end.0 ≤ hi
  -- and every instant from s up to that end
  pub free : (u : ℕ) → s ≤ u → u < end.0 → Below u
  -- s itself included, is booked below the priority
  pub itself : Below s

-- s is the least tick of which P holds
pub record Least (P : ℕ → Type 0) (s : ℕ) : Type 0 where
  pub is : P s
  pub least : (u : ℕ) → P u → s ≤ u
