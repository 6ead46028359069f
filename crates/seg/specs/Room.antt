-- 02, R-1: the room left in a pass, in one number: 1, else the sum of the listed volumes.
use Rattle.std.specs.Prelude.{ℕ}
use Rattle.units.specs.Logic.{unless}
use Rattle.units.specs.declared.Volume.{Volume}
use Rattle.free_list.specs.Cut.{listed}
use Rattle.free_list.specs.Room.{room_of}
use Rattle.seg.specs.declared.FreeVolume.{FreeVolume}
use Rattle.seg.specs.declared.RoomLeft.{RoomLeft}
use Rattle.seg.specs.Record.{record_ok}

-- what the record's list adds up to
abbrev pub room_in : FreeVolume → Volume
room_in r = record { 0 = room_of (listed r.free) }

-- a refusal shows no room
abbrev pub refused_room : ℕ → RoomLeft
refused_room n = record { number = n; room = record { 0 = 0 } }

-- the room
unfoldable pub room_answer : FreeVolume → RoomLeft
room_answer r = unless (record_ok r) (refused_room 1) (record { number = 0; room = room_in r })
