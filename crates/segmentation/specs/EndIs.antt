-- RULES, End 2 to 6, as a relation: its sentence beside the function `end_of`, which is proved to have it.
use Rattle.std.specs.Prelude.{ℕ, ◌+◌, ◌<◌, ◌≤◌, ◌≡◌, List, Option, Some, None}
use Rattle.segmentation.specs.declared.VolumeSegment.{VolumeSegment}
use Rattle.units.specs.declared.Date.{Date}
use Rattle.segmentation.specs.Capacity.{capacity}

-- u is the first tick, not past the window's end z, by which the capacity from a reaches the size v
pub record FirstTick (l : List VolumeSegment) (a v z u : ℕ) : Type 0 where
  pub from : a ≤ u
  pub within : u ≤ z
  pub reached : v ≤ capacity l a u
  pub before : (t : ℕ) → a ≤ t → t < u → capacity l a t < v

-- the end e: edition 2, u itself; edition 1, u if the capacity equals the size there, else u - 1
pub record Rounded (edition : ℕ) (l : List VolumeSegment) (a v u e : ℕ) : Type 0 where
  pub second : edition ≡ 2 → e ≡ u
  pub equal : (edition ≡ 2 → ⊥) → capacity l a u ≡ v → e ≡ u
  pub above : (edition ≡ 2 → ⊥) → v < capacity l a u → e + 1 ≡ u

-- the end of a send of size v from a on, by the deadline d; none where it is late, or no tick of the window is u
pub data EndIs (edition : ℕ) (l : List VolumeSegment) (a v z d : ℕ) (r : (Option Date)) : Type 0 where
  in-time : (u e : ℕ) → FirstTick l a v z u → Rounded edition l a v u e → e ≤ d → r ≡ Some (record { 0 = e }) → EndIs edition l a v z d r
  late : (u e : ℕ) → FirstTick l a v z u → Rounded edition l a v u e → d < e → r ≡ None → EndIs edition l a v z d r
  no-tick : ((u : ℕ) → FirstTick l a v z u → ⊥) → r ≡ None → EndIs edition l a v z d r
