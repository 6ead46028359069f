-- What inner functions take for granted or compute on the way. No promise of a public call rests on it.
use Rattle.std.specs.Prelude.{ℕ, ◌<◌, ◌≤◌, ◌≡◌, ◌+◌, List, [], ◌∷◌, ◌++◌, length, get_or, Option, Some, None, Result, Ok, Err}
use Rattle.units.specs.Limits.{listed_max}
use Rattle.units.specs.declared.refusal.Refusal.{Refusal}
use Rattle.units.specs.declared.refusal.Refusal.TheVariants.{Full}
use Rattle.units.specs.Refusal.{number_of, told}
use Rattle.bookings.specs.declared.BookingSegment.{BookingSegment}
use Rattle.bookings.specs.declared.Bookings.{Bookings}
use Rattle.bookings.specs.declared.Set.{Set}
use Rattle.bookings.specs.declared.Parts.{Parts}
use Rattle.bookings.specs.Listed.{listed}
use Rattle.bookings.specs.Cut.{segment, list_in}

-- each segment starts not before the date
unfoldable pub From : ℕ → List BookingSegment → Type 0
From lo [] = Unit
From lo (g ∷ f) = (lo ≤ g.start.0) × (From lo f)

-- a part that there may be
abbrev pub part_of : Option BookingSegment → List BookingSegment
part_of (Some g) = g ∷ []
part_of None = []

-- the parts as one turn of the code has them
abbrev pub laid_parts : Parts → List BookingSegment
laid_parts c = part_of c.before ++ (c.middle ∷ part_of c.after)

-- a list within the limit, with nothing past its segments
pub record Tidy (b : Bookings) : Type 0 where
  pub is : b ≡ list_in (listed b)
  pub few : length (listed b) ≤ listed_max

-- the list with these after its own, which it has room for
pub record Holds (b : Bookings) (more : List BookingSegment) (x : Bookings) : Type 0 where
  pub is : x ≡ list_in (listed b ++ more)
  pub few : length (listed b ++ more) ≤ listed_max

-- it has no room for them: 10
pub record Overflows (b : Bookings) (more : List BookingSegment) (e : Refusal) : Type 0 where
  pub full : e ≡ Full
  pub many : listed_max < length (listed b ++ more)

-- a setting's answer: what is done, or the refusal and the list as it came
abbrev pub set_in : Bookings → Result Bookings Refusal → Set
set_in r (Ok b) = record { number = 0; bookings = b }
set_in r (Err e) = record { number = number_of e; bookings = r }

-- a setting where the list stands: its number, and what is left there
abbrev pub placed : Bookings → Result Unit Refusal → Set
placed b r = record { number = told r; bookings = b }

-- an unused place
abbrev pub zero_booking : BookingSegment
zero_booking = segment 0 0 0

-- each segment is not backward and starts where the one before it ends
unfoldable pub Chain : ℕ → List BookingSegment → Type 0
Chain a [] = Unit
Chain a (g ∷ f) = (g.start.0 ≡ a) × (g.start.0 ≤ g.end.0) × (Chain g.end.0 f)

-- they do so from some date on
pub record Follows (l : List BookingSegment) : Type 0 where
  pub from : ℕ
  pub chain : Chain from l

-- the segments before place r have a date before t, and the one at r does not
pub record First (date : BookingSegment → ℕ) (l : List BookingSegment) (t r : ℕ) : Type 0 where
  pub low : r ≤ length l
  pub before : (i : ℕ) → i < r → date (get_or l i zero_booking) < t
  pub here : r < length l → t ≤ date (get_or l r zero_booking)

-- the segments before place r end by the date, and the one there after it
abbrev pub Ended : List BookingSegment → ℕ → ℕ → Type 0
Ended l t r = First (λ g. g.end.0) l (t + 1) r

-- the segments before place r start before the date, and the one there does not
abbrev pub Begun : List BookingSegment → ℕ → ℕ → Type 0
Begun l t r = First (λ g. g.start.0) l t r
