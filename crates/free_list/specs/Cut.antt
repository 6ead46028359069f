-- 01, "Managers", Free volume, the booking's cut.
use Rattle.std.specs.Prelude.{ℕ, zero, suc, ◌-◌, List, [], ◌∷◌, leb, eqb, length, take, get_or}
use Rattle.units.specs.Limits.{listed_max}
use Rattle.units.specs.declared.Interval.{Interval}
use Rattle.units.specs.Logic.{pick, unless}
use Rattle.units.specs.Arrays.{padded}
use Rattle.segmentation.specs.declared.VolumeSegment.{VolumeSegment}
use Rattle.segmentation.specs.Capacity.{capacity}
use Rattle.contact.specs.Segments.{zero_volume}
use Rattle.free_list.specs.declared.FreeList.{FreeList}
use Rattle.free_list.specs.declared.Cut.{Cut}
use Rattle.free_list.specs.Room.{room_of}

-- a stretch with its volume worked out anew
abbrev pub stretch_of : List VolumeSegment → ℕ → ℕ → VolumeSegment
stretch_of l a b = record { start = record { 0 = a }; end = record { 0 = b }; volume = record { 0 = capacity l a b } }

-- booking at the segment's start: volume falls by the size; edition 2: the exact capacity of what remains (02, R-5)
abbrev pub rest_volume : ℕ → List VolumeSegment → VolumeSegment → ℕ → ℕ → ℕ
rest_volume edition l g e v = pick (eqb edition 2) (capacity l e g.end.0) (g.volume.0 - v)

-- and start becomes the end sent
abbrev pub rest_of : ℕ → List VolumeSegment → VolumeSegment → ℕ → ℕ → VolumeSegment
rest_of edition l g e v = record { start = record { 0 = e }; end = g.end; volume = record { 0 = rest_volume edition l g e v } }

-- what a booking of [s, e) leaves of a segment, before the others; a right part only if s and e differ, and it may be empty
unfoldable pub left_of : ℕ → List VolumeSegment → VolumeSegment → ℕ → ℕ → ℕ → List VolumeSegment → List VolumeSegment
left_of edition l g s e v f =
    pick (eqb g.start.0 s)
    (rest_of edition l g e v ∷ f)
    (stretch_of l g.start.0 s ∷ pick (eqb s e) f (stretch_of l e g.end.0 ∷ f))

-- the list with the segment at the offer's place cut
unfoldable pub cut_of : ℕ → List VolumeSegment → List VolumeSegment → ℕ → ℕ → ℕ → ℕ → List VolumeSegment
cut_of edition l [] i s e v = []
cut_of edition l (g ∷ f) zero s e v = left_of edition l g s e v f
cut_of edition l (g ∷ f) (suc i) s e v = g ∷ cut_of edition l f i s e v

-- the listed segments of a record
abbrev pub listed : FreeList → List VolumeSegment
listed r = take r.count r.segments

-- the record's list of these segments
abbrev pub list_in : List VolumeSegment → FreeList
list_in f = record { segments = padded listed_max zero_volume f; count = length f }

-- the list that an array and a count make
abbrev pub free_in : List VolumeSegment → ℕ → FreeList
free_in segments count = record { segments = segments; count = count }

-- what an opening lists: the whole window, with a volume
abbrev pub whole_window : Interval → ℕ → VolumeSegment
whole_window w total = record { start = w.start; end = w.end; volume = record { 0 = total } }

-- a cut's answer, with what it takes off the listed volumes and what it puts in
abbrev pub cut_answer : ℕ → FreeList → ℕ → ℕ → Cut
cut_answer n f off on = record { number = n; list = f; off = record { 0 = off }; on = record { 0 = on } }

-- refusal 10: the booking would leave more than 64 listed segments
unfoldable pub list_cut : ℕ → List VolumeSegment → FreeList → ℕ → ℕ → ℕ → ℕ → Cut
list_cut edition l r i s e v =
    let g = get_or (listed r) i zero_volume in
    unless (leb (length (cut_of edition l (listed r) i s e v)) listed_max) (cut_answer 10 r 0 0)
    (cut_answer 0 (list_in (cut_of edition l (listed r) i s e v)) g.volume.0 (room_of (left_of edition l g s e v [])))
