-- 01, "Records", Free list: in the window, each start <= end, each end strictly before the next start, volume 0 to the exact capacity.
use Rattle.std.specs.Prelude.{ℕ, ◌+◌, Bool, true, List, [], ◌∷◌, leb}
use Rattle.units.specs.Logic.{both}
use Rattle.segmentation.specs.declared.VolumeSegment.{VolumeSegment}
use Rattle.segmentation.specs.Capacity.{capacity}

-- a segment that starts not before low and ends not after hi; l are the contact's rate segments
unfoldable pub segment_ok : List VolumeSegment → ℕ → ℕ → VolumeSegment → Bool
segment_ok l low hi g =
    both (leb low g.start.0)
    (both (leb g.start.0 g.end.0)
    (both (leb g.end.0 hi)
    (leb g.volume.0 (capacity l g.start.0 g.end.0))))

-- the next one starts not before the tick after this one's end
unfoldable pub list_ok : List VolumeSegment → ℕ → ℕ → List VolumeSegment → Bool
list_ok l low hi [] = true
list_ok l low hi (g ∷ f) = both (segment_ok l low hi g) (list_ok l (g.end.0 + 1) hi f)
