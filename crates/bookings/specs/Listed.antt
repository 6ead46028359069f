-- 01, "Records", Bookings: each start <= end, covering the window without a gap, values -1 to 127.
use Rattle.std.specs.Prelude.{ℕ, zero, suc, ◌+◌, Bool, List, [], ◌∷◌, leb, ltb, eqb, ℤ, pos, negsuc, take}
use Rattle.units.specs.Limits.{priority_max}
use Rattle.units.specs.Logic.{both, pick}
use Rattle.bookings.specs.declared.Level.{Level}
use Rattle.bookings.specs.declared.BookingSegment.{BookingSegment}
use Rattle.bookings.specs.declared.Bookings.{Bookings}

-- the value that a stored level stands for: -1 for 0, else one below it
abbrev pub value_of : Level → ℤ
value_of w = shown w.0
  where
    shown : ℕ → ℤ
    shown zero = negsuc 0
    shown (suc n) = pos n

-- the level of the highest priority
abbrev pub level_max : ℕ
level_max = priority_max + 1

-- the segment starts at a, goes forward, and its value is -1 to 127
unfoldable pub follows : ℕ → BookingSegment → Bool
follows a g = both (eqb g.start.0 a) (both (leb g.start.0 g.end.0) (leb g.level.0 level_max))

-- the segments cover a to b without a gap
unfoldable pub cover_ok : ℕ → ℕ → List BookingSegment → Bool
cover_ok a b [] = eqb a b
cover_ok a b (g ∷ f) = both (follows a g) (cover_ok g.end.0 b f)

-- the level at a tick: that of the segment with start <= tick < end, 0 where there is none
unfoldable pub level_at : List BookingSegment → ℕ → ℕ
level_at [] t = 0
level_at (g ∷ f) t = pick (both (leb g.start.0 t) (ltb t g.end.0)) g.level.0 (level_at f t)

-- an unused place is zero
unfoldable pub no_booking : BookingSegment → Bool
no_booking g = both (eqb g.start.0 0) (both (eqb g.end.0 0) (eqb g.level.0 0))

-- the listed segments of a record
abbrev pub listed : Bookings → List BookingSegment
listed r = take r.count r.segments
