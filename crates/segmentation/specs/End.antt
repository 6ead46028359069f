-- 01, "Rounding and lookup", End, in its exact terms (edition 1), and 02's R-5 (edition 2).
use Rattle.std.specs.Prelude.{ℕ, zero, suc, ◌+◌, ◌-◌, List, [], ◌∷◌, leb, eqb, Option, Some, None}
use Rattle.units.specs.Logic.{pick}
use Rattle.segmentation.specs.declared.VolumeSegment.{VolumeSegment}
use Rattle.units.specs.declared.Date.{Date}
use Rattle.segmentation.specs.Capacity.{cap_of, capacity}

-- the tick by which the capacity reaches the size, if there is one
pub data Reach : Type 0 where
  by : ℕ → Reach
  never : Reach

abbrev pub or_else : Reach → Reach → Reach
or_else (by u) r = by u
or_else never r = r

-- u: the first tick, of a and the n after it, by which the capacity from a on reaches the size v
unfoldable pub reach_of : List VolumeSegment → ℕ → ℕ → ℕ → Reach
reach_of l a v zero = pick (leb v 0) (by a) never
reach_of l a v (suc n) = or_else (reach_of l a v n) (pick (leb v (cap_of l a (suc n))) (by (a + suc n)) never)

-- the end of the window, whose rate segments these are (a where there are none)
unfoldable pub close_of : ℕ → List VolumeSegment → ℕ
close_of a [] = a
close_of a (s ∷ l) = close_of s.end.0 l

-- edition 2: u itself; edition 1: u if the capacity c equals the size there, else u - 1
abbrev pub round_of : ℕ → ℕ → ℕ → ℕ → ℕ
round_of edition c v u = pick (eqb edition 2) u (pick (eqb c v) u (u - 1))

-- accepted if not after the deadline
abbrev pub by_deadline : ℕ → ℕ → (Option Date)
by_deadline d e = pick (leb e d) (Some (record { 0 = e })) None

abbrev pub end_given : ℕ → List VolumeSegment → ℕ → ℕ → ℕ → Reach → (Option Date)
end_given edition l a v d (by u) = by_deadline d (round_of edition (capacity l a u) v u)
end_given edition l a v d never = None

-- the end of a send of size v from a on, by the deadline d; none where no tick of the window is u
unfoldable pub end_of : ℕ → List VolumeSegment → ℕ → ℕ → ℕ → (Option Date)
end_of edition l a v d = end_given edition l a v d (reach_of l a v (close_of a l - a))
