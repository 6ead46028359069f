-- 01, "Managers", Priority, the booking: [send start, send end) is set to the priority, cutting at both ends, without merging.
use Rattle.std.specs.Prelude.{ℕ, max, min, Bool, List, [], ◌∷◌, ◌++◌, leb, ltb, length}
use Rattle.units.specs.Limits.{listed_max}
use Rattle.units.specs.Logic.{both, pick, unless}
use Rattle.units.specs.Arrays.{padded}
use Rattle.bookings.specs.declared.BookingSegment.{BookingSegment}
use Rattle.bookings.specs.declared.Bookings.{Bookings}
use Rattle.bookings.specs.declared.Set.{Set}
use Rattle.bookings.specs.Listed.{listed}

abbrev pub segment : ℕ → ℕ → ℕ → BookingSegment
segment a b w = record { start = record { 0 = a }; end = record { 0 = b }; level = record { 0 = w } }

-- the segment holds an instant of the send interval, lies strictly inside it, or holds it strictly inside
abbrev pub touches : ℕ → ℕ → BookingSegment → Bool
touches s e g = both (ltb s g.end.0) (ltb g.start.0 e)

-- the part before the send start, where there is one
abbrev pub before_of : ℕ → BookingSegment → List BookingSegment
before_of s g = pick (ltb g.start.0 s) (segment g.start.0 s g.level.0 ∷ []) []

-- the part after the send end, where there is one
abbrev pub after_of : ℕ → BookingSegment → List BookingSegment
after_of e g = pick (ltb e g.end.0) (segment e g.end.0 g.level.0 ∷ []) []

-- the part in between, at the new level
abbrev pub sent_of : ℕ → ℕ → ℕ → BookingSegment → BookingSegment
sent_of s e w g = segment (max g.start.0 s) (min g.end.0 e) w

-- what a booking leaves of a segment
unfoldable pub parts_of : ℕ → ℕ → ℕ → BookingSegment → List BookingSegment
parts_of s e w g = pick (touches s e g) (before_of s g ++ (sent_of s e w g ∷ after_of e g)) (g ∷ [])

-- and of the list
unfoldable pub set_of : ℕ → ℕ → ℕ → List BookingSegment → List BookingSegment
set_of s e w [] = []
set_of s e w (g ∷ f) = parts_of s e w g ++ set_of s e w f

-- the list in its array
abbrev pub laid_of : List BookingSegment → List BookingSegment
laid_of f = padded listed_max (segment 0 0 0) f

-- the record's list of these segments
abbrev pub list_in : List BookingSegment → Bookings
list_in f = record { segments = laid_of f; count = length f }

-- the list that an array and a count make
abbrev pub bookings_in : List BookingSegment → ℕ → Bookings
bookings_in segments count = record { segments = segments; count = count }

-- refusal 10: the booking would leave more than 64 listed segments
unfoldable pub set_bookings : Bookings → ℕ → ℕ → ℕ → Set
set_bookings r s e w =
    unless (leb (length (set_of s e w (listed r))) listed_max) (record { number = 10; bookings = r })
    (record { number = 0; bookings = record { segments = laid_of (set_of s e w (listed r)); count = length (set_of s e w (listed r)) } })
