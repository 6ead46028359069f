-- 02, R-7: a record, a booking's answer and an opening's with the flag at a number, and all else as it is.
use Rattle.std.specs.Prelude.{ℕ}
use Rattle.contact.specs.Record.{flagged as contact_flagged}
use Rattle.seg.specs.declared.FreeVolume.{FreeVolume}
use Rattle.seg.specs.declared.Opened.{Opened}
use Rattle.seg.specs.declared.Booked.{Booked}

-- the record
abbrev pub flagged : ℕ → FreeVolume → FreeVolume
flagged n r = record { contact = contact_flagged n r.contact; free = r.free; room = r.room }

-- a booking's answer: the same number, and the record that it hands back
abbrev pub turned : ℕ → Booked → Booked
turned n a = record { number = a.number; manager = flagged n a.manager }

-- an accepted opening's answer
abbrev pub turned_opening : ℕ → Opened → Opened
turned_opening n o = record { number = o.number; manager = flagged n o.manager }
