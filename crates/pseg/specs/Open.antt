-- 01, "Refusal numbers", Opening, and "Records": 3, 4, 6, 5, and 02's 2 before all else; the whole window is listed, with -1.
use Rattle.std.specs.Prelude.{ℕ, List, [], ◌∷◌, eqb}
use Rattle.units.specs.declared.Interval.{Interval}
use Rattle.units.specs.Logic.{unless}
use Rattle.segmentation.specs.declared.RateSegment.{RateSegment}
use Rattle.segmentation.specs.declared.DelaySegment.{DelaySegment}
use Rattle.contact.specs.declared.Choices.{Choices}
use Rattle.contact.specs.Open.{open_contact, refused_contact}
use Rattle.contact.specs.declared.Opened.{Opened as ContactOpened}
use Rattle.bookings.specs.declared.BookingSegment.{BookingSegment}
use Rattle.bookings.specs.Cut.{list_in}
use Rattle.pseg.specs.declared.Opened.{Opened}

-- level 0 stands for -1: nothing is booked
abbrev pub whole_window : Interval → BookingSegment
whole_window w = record { start = w.start; end = w.end; level = record { 0 = 0 } }

-- a refused opening returns an all-zero record
abbrev pub refused_opening : ℕ → Opened
refused_opening n = record { number = n; manager = record { contact = (refused_contact n).contact; bookings = list_in [] } }

abbrev pub opened_of : Interval → ContactOpened → Opened
opened_of w o =
    unless (eqb o.number 0) (refused_opening o.number)
    (record { number = 0; manager = record { contact = o.contact; bookings = list_in (whole_window w ∷ []) } })

-- the opening
unfoldable pub open_of : Choices → Interval → List RateSegment → ℕ → List DelaySegment → ℕ → Opened
open_of h w rates m delays k = opened_of w (open_contact h w rates m delays k)
