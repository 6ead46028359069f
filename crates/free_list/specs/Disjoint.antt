-- 01, "Records", over a log of accepted bookings: their send intervals share no tick with each other or with a listed segment, and lie in the window.
use Rattle.std.specs.Prelude.{ℕ, List, [], ◌∷◌}
use Rattle.units.specs.declared.Interval.{Interval}
use Rattle.units.specs.Logged.{Booking}
use Rattle.units.specs.Instants.{AllIn}
use Rattle.segmentation.specs.declared.VolumeSegment.{VolumeSegment}
use Rattle.free_list.specs.Instants.{Apart, Clear}

-- no booking shares a tick with a listed segment
unfoldable pub AllClear : List VolumeSegment → List Booking → Type 0
AllClear f [] = Unit
AllClear f (b ∷ log) = (Clear b.send.start.0 b.send.end.0 f) × (AllClear f log)

-- [s, e) shares no tick with a booking
unfoldable pub AllApart : ℕ → ℕ → List Booking → Type 0
AllApart s e [] = Unit
AllApart s e (b ∷ log) = (Apart s e b.send.start.0 b.send.end.0) × (AllApart s e log)

-- no two bookings share a tick
unfoldable pub Pairwise : List Booking → Type 0
Pairwise [] = Unit
Pairwise (b ∷ log) = (AllApart b.send.start.0 b.send.end.0 log) × (Pairwise log)

-- no two bookings share a tick, none shares one with a listed segment, and each is in the window
pub record Disjoint (w : Interval) (f : List VolumeSegment) (log : List Booking) : Type 0 where
  pub apart : Pairwise log
  pub clear : AllClear f log
  pub inside : AllIn w log
