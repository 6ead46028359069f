-- The records that parts in memory make: what the kept calls, to which a record's parts are lent, are promised over.
use Rattle.std.specs.Prelude.{ℕ, ℤ, List}
use Rattle.units.specs.declared.Date.{Date}
use Rattle.units.specs.declared.Interval.{Interval}
use Rattle.segmentation.specs.declared.VolumeSegment.{VolumeSegment}
use Rattle.segmentation.specs.declared.DelaySegment.{DelaySegment}
use Rattle.contact.specs.declared.Choices.{Choices}
use Rattle.contact.specs.declared.Contact.{Contact}
use Rattle.free_list.specs.Cut.{listed, free_in}
use Rattle.free_list.specs.Room.{room_of}
use Rattle.bookings.specs.declared.BookingSegment.{BookingSegment}
use Rattle.bookings.specs.Cut.{bookings_in}
use Rattle.poly.specs.declared.Polynome.{Polynome}
use Rattle.seg.specs.declared.FreeVolume.{FreeVolume}
use Rattle.pseg.specs.declared.PrioritySeg.{PrioritySeg}
use Rattle.poly_seg.specs.declared.Choices.{Choices as PolynomialChoices}
use Rattle.poly_seg.specs.declared.PolySeg.{PolySeg}

-- the choices, the window, and the rates and delays, with how many of each are used
abbrev pub contact_in : Choices → Interval → List VolumeSegment → ℕ → List DelaySegment → ℕ → Contact
contact_in h w rates m delays k =
    record { choices = h; window = w; rates = rates; rate_count = m; delays = delays; delay_count = k }

-- 01, "Managers", Free volume: a contact and its free list, with the room that the list has
abbrev pub free_volume_in : Choices → Interval → List VolumeSegment → ℕ → List DelaySegment → ℕ → List VolumeSegment → ℕ → FreeVolume
free_volume_in h w rates m delays k free n =
    record { contact = contact_in h w rates m delays k; free = free_in free n; room = record { 0 = room_of (listed (free_in free n)) } }

-- Priority: a contact and its bookings
abbrev pub priority_seg_in : Choices → Interval → List VolumeSegment → ℕ → List DelaySegment → ℕ → List BookingSegment → ℕ → PrioritySeg
priority_seg_in h w rates m delays k bookings n =
    record { contact = contact_in h w rates m delays k; bookings = bookings_in bookings n }

-- the four coefficients and the offset
abbrev pub polynome_in : List ℤ → Date → Polynome
polynome_in coefficients offset = record { coefficients = coefficients; offset = offset }

-- Polynomial: choices, window, polynomial, delays and free list
abbrev pub poly_seg_in : PolynomialChoices → Interval → Polynome → List DelaySegment → ℕ → List VolumeSegment → ℕ → PolySeg
poly_seg_in h w p delays k free n =
    record { choices = h; window = w; polynome = p; delays = delays; delay_count = k; free = free_in free n }
