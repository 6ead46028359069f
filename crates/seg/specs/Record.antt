-- 01, "Records": a free-volume record keeps the contact's rules and lists 1 to 64 segments of free time; unused places are zero.
-- 02, R-1: its room is the sum of the listed volumes.
use Rattle.std.specs.Prelude.{Bool, leb, eqb, drop}
use Rattle.units.specs.Limits.{listed_max}
use Rattle.units.specs.declared.Volume.{Volume}
use Rattle.units.specs.Logic.{both, all_of}
use Rattle.contact.specs.declared.Contact.{Contact}
use Rattle.contact.specs.Segments.{no_volume}
use Rattle.contact.specs.Record.{contact_ok, rates_of}
use Rattle.free_list.specs.declared.FreeList.{FreeList}
use Rattle.free_list.specs.Listed.{list_ok}
use Rattle.free_list.specs.Cut.{listed}
use Rattle.free_list.specs.Room.{room_of}
use Rattle.seg.specs.declared.FreeVolume.{FreeVolume}

unfoldable pub free_ok : Contact → FreeList → Bool
free_ok c f =
    both (leb 1 f.count)
    (both (leb f.count listed_max)
    (both (list_ok (rates_of c) c.window.start.0 c.window.end.0 (listed f))
    (all_of no_volume (drop f.count f.segments))))

unfoldable pub record_ok : FreeVolume → Bool
record_ok r =
    both (contact_ok r.contact) (both (free_ok r.contact r.free) (eqb r.room.0 (room_of (listed r.free))))

-- the record with another list and another room
abbrev pub with_left : FreeVolume → FreeList → Volume → FreeVolume
with_left r f room = record { contact = r.contact; free = f; room = room }

-- the record with another list, and the room that this list has
abbrev pub with_free : FreeVolume → FreeList → FreeVolume
with_free r f = with_left r f (record { 0 = room_of (listed f) })
