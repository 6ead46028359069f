-- 02, R-1: the room left in a pass is the sum of its listed volumes; and the exact capacity of the listed time beside it.
use Rattle.std.specs.Prelude.{ℕ, ◌+◌, ◌≡◌, List, [], ◌∷◌}
use Rattle.segmentation.specs.declared.VolumeSegment.{VolumeSegment}
use Rattle.segmentation.specs.Capacity.{capacity}

-- the room of a list
unfoldable pub room_of : List VolumeSegment → ℕ
room_of [] = 0
room_of (g ∷ f) = g.volume.0 + room_of f

-- the exact capacity of the listed time
unfoldable pub listed_capacity : List VolumeSegment → List VolumeSegment → ℕ
listed_capacity l [] = 0
listed_capacity l (g ∷ f) = capacity l g.start.0 g.end.0 + listed_capacity l f

-- 02, R-5: each listed volume is exactly the capacity of its segment
unfoldable pub Exactly : List VolumeSegment → List VolumeSegment → Type 0
Exactly l [] = Unit
Exactly l (g ∷ f) = (g.volume.0 ≡ capacity l g.start.0 g.end.0) × (Exactly l f)
