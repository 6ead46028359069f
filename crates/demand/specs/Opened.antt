-- Demand 3 over the contact as it was opened: what its window and rates say of what is listed at last and of the logged bookings.
use Rattle.std.specs.Prelude.{ℕ, ◌-◌, ◌≡◌, List, [], ◌∷◌, length}
use Rattle.units.specs.Logged.{Booking}
use Rattle.segmentation.specs.declared.VolumeSegment.{VolumeSegment}
use Rattle.segmentation.specs.Capacity.{top_of}
use Rattle.contact.specs.declared.Contact.{Contact}
use Rattle.contact.specs.Record.{rates_of, edition_of}
use Rattle.free_list.specs.Disjoint.{Disjoint}
use Rattle.demand.specs.Calls.{Booking as Sized}
use Rattle.demand.specs.Instants.{held_of, size_sum, Within}

-- the bookings by their send intervals and sizes
unfoldable pub sized : List Booking → List Sized
sized [] = []
sized (b ∷ log) = record { send = b.send; size = b.size } ∷ sized log

-- the exact capacity of the accepted bookings' instants, all of them in the window
abbrev pub carried_in : Contact → List Booking → ℕ
carried_in c log = held_of (rates_of c) (sized log) c.window.start.0 (c.window.end.0 - c.window.start.0)

-- what demand 3 asks, its last sentence by edition; R is the contact's highest rate
pub record DemandIn (c : Contact) (f : List VolumeSegment) (log : List Booking) : Type 0 where
  pub disjoint : Disjoint c.window f log
  pub first : edition_of c ≡ 1 → Within (top_of (rates_of c)) (length log) (carried_in c log) (size_sum (sized log))
  pub second : edition_of c ≡ 2 → Within (top_of (rates_of c)) (length log) (size_sum (sized log)) (carried_in c log)
