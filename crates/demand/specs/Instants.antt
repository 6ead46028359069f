-- Demand 3: instants are ticks; the accepted send intervals share none with each other or with a listed segment, and what they carry.
use Rattle.std.specs.Prelude.{ℕ, zero, suc, ◌+◌, ◌-◌, ◌*◌, ◌≤◌, Bool, true, false, ◌≡◌, List, [], ◌∷◌, leb, ltb, length}
use Rattle.units.specs.declared.Interval.{Interval}
use Rattle.units.specs.Logic.{both, pick}
use Rattle.segmentation.specs.declared.VolumeSegment.{VolumeSegment}
use Rattle.segmentation.specs.Capacity.{rate_at, top_of}
use Rattle.free_list.specs.Instants.{Apart, Clear}
use Rattle.free_list.specs.Cut.{listed}
use Rattle.contact.specs.Record.{rates_of, edition_of}
use Rattle.demand.specs.Calls.{Booking, State}

-- no booking shares a tick with a listed segment
unfoldable pub AllClear : List VolumeSegment → List Booking → Type 0
AllClear f [] = Unit
AllClear f (b ∷ log) = (Clear b.send.start.0 b.send.end.0 f) × (AllClear f log)

-- [s, e) shares no tick with a booking
unfoldable pub AllApart : ℕ → ℕ → List Booking → Type 0
AllApart s e [] = Unit
AllApart s e (b ∷ log) = (Apart s e b.send.start.0 b.send.end.0) × (AllApart s e log)

-- no two bookings share a tick
unfoldable pub Pairwise : List Booking → Type 0
Pairwise [] = Unit
Pairwise (b ∷ log) = (AllApart b.send.start.0 b.send.end.0 log) × (Pairwise log)

-- a booking holds the tick
unfoldable pub held_at : List Booking → ℕ → Bool
held_at [] t = false
held_at (b ∷ log) t = pick (both (leb b.send.start.0 t) (ltb t b.send.end.0)) true (held_at log t)

-- the exact capacity of the ticks that bookings hold, among the n from a on
unfoldable pub held_of : List VolumeSegment → List Booking → ℕ → ℕ → ℕ
held_of l log a zero = 0
held_of l log a (suc n) = held_of l log a n + pick (held_at log (a + n)) (rate_at l (a + n)) 0

-- each booking is inside the window
unfoldable pub AllIn : Interval → List Booking → Type 0
AllIn w [] = Unit
AllIn w (b ∷ log) =
    (w.start.0 ≤ b.send.start.0) × (b.send.start.0 ≤ b.send.end.0) × (b.send.end.0 ≤ w.end.0) × (AllIn w log)

-- the sum of the booked sizes
unfoldable pub size_sum : List Booking → ℕ
size_sum [] = 0
size_sum (b ∷ log) = b.size + size_sum log

-- the exact capacity of the accepted bookings' instants, all of them in the window
abbrev pub carried : State → ℕ
carried x =
    let c = x.manager.contact in
    held_of (rates_of c) x.log c.window.start.0 (c.window.end.0 - c.window.start.0)

-- a is never above b, and falls below it by at most r - 1 for each of n bookings
abbrev pub Within : ℕ → ℕ → ℕ → ℕ → Type 0
Within r n a b = (a ≤ b) × (b ≤ a + (r - 1) * n)

-- what demand 3 asks of the record and the bookings, its last sentence by edition; R is the contact's highest rate
pub record Demand (x : State) : Type 0 where
  pub apart : Pairwise x.log
  pub clear : AllClear (listed x.manager.free) x.log
  pub inside : AllIn x.manager.contact.window x.log
  pub first : edition_of x.manager.contact ≡ 1 → Within (top_of (rates_of x.manager.contact)) (length x.log) (carried x) (size_sum x.log)
  pub second : edition_of x.manager.contact ≡ 2 → Within (top_of (rates_of x.manager.contact)) (length x.log) (size_sum x.log) (carried x)
