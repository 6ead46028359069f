-- 01, "The trace program": (start, end, value)s, and each class's queue.
use Rattle.std.specs.Prelude.{ℕ, List, ◌++◌, take}
use Rattle.units.specs.declared.Date.{Date}
use Rattle.units.specs.declared.Volume.{Volume}
use Rattle.segmentation.specs.declared.VolumeSegment.{VolumeSegment}
use Rattle.bookings.specs.declared.BookingSegment.{BookingSegment}
use Rattle.bookings.specs.declared.Bookings.{Bookings}
use Rattle.bookings.specs.Listed.{value_of}
use Rattle.text.specs.Text.{number_text, bits_of}

-- start, end, value
unfoldable pub row_text : Date → Date → ℕ → List ℕ
row_text a b v = number_text a.0 ++ (number_text b.0 ++ number_text v)

-- a stretch of free time: its volume, which is 0 for polynomial
abbrev pub volume_text : VolumeSegment → List ℕ
volume_text s = row_text s.start s.end s.volume.0

-- a booked stretch: its priority, -1 where none is booked
abbrev pub booking_text : BookingSegment → List ℕ
booking_text s = row_text s.start s.end (bits_of (value_of s.level))

-- the listed stretches of a priority record
abbrev pub booked_rows : Bookings → List BookingSegment
booked_rows l = take l.count l.segments

-- a class's queue
abbrev pub queue_text : Volume → List ℕ
queue_text q = number_text q.0
