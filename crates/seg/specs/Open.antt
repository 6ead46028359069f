-- 01, "Refusal numbers", Opening, and "Records": 3, 4, 6, 5, and 02's 2 before all else; the whole window is listed, with the total volume, and that is the room.
use Rattle.std.specs.Prelude.{ℕ, List, [], ◌∷◌, eqb}
use Rattle.units.specs.declared.Interval.{Interval}
use Rattle.units.specs.Logic.{unless}
use Rattle.segmentation.specs.declared.RateSegment.{RateSegment}
use Rattle.segmentation.specs.declared.DelaySegment.{DelaySegment}
use Rattle.contact.specs.declared.Choices.{Choices}
use Rattle.contact.specs.declared.Contact.{Contact}
use Rattle.contact.specs.Open.{open_contact, refused_contact}
use Rattle.contact.specs.declared.Opened.{Opened as ContactOpened}
use Rattle.free_list.specs.Cut.{list_in, whole_window}
use Rattle.seg.specs.declared.FreeVolume.{FreeVolume}
use Rattle.seg.specs.declared.Opened.{Opened}

-- a refused opening returns an all-zero record
abbrev pub refused_opening : ℕ → Opened
refused_opening n = record { number = n; manager = record { contact = (refused_contact n).contact; free = list_in []; room = record { 0 = 0 } } }

-- a contact whose whole window is free, with this volume
abbrev pub whole_of : Contact → Interval → ℕ → FreeVolume
whole_of c w total = record { contact = c; free = list_in (whole_window w total ∷ []); room = record { 0 = total } }

abbrev pub opened_of : Interval → ContactOpened → Opened
opened_of w o =
    unless (eqb o.number 0) (refused_opening o.number)
    (record { number = 0; manager = whole_of o.contact w o.total.0 })

-- the opening
unfoldable pub open_of : Choices → Interval → List RateSegment → ℕ → List DelaySegment → ℕ → Opened
open_of h w rates m delays k = opened_of w (open_contact h w rates m delays k)
