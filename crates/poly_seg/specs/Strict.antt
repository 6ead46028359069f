-- 02, R-7: a record, a booking's answer and an opening's with the flag at a number, and all else as it is.
use Rattle.std.specs.Prelude.{ℕ}
use Rattle.poly_seg.specs.declared.PolySeg.{PolySeg}
use Rattle.poly_seg.specs.declared.Opened.{Opened}
use Rattle.poly_seg.specs.declared.Booked.{Booked}
use Rattle.poly_seg.specs.Choices.{flagging}

-- the record
abbrev pub flagged : ℕ → PolySeg → PolySeg
flagged n r =
    record {
      choices = flagging n r.choices;
      window = r.window;
      polynome = r.polynome;
      delays = r.delays;
      delay_count = r.delay_count;
      free = r.free;
    }

-- a booking's answer: the same number, and the record that it hands back
abbrev pub turned : ℕ → Booked → Booked
turned n a = record { number = a.number; manager = flagged n a.manager }

-- an accepted opening's answer
abbrev pub turned_opening : ℕ → Opened → Opened
turned_opening n o = record { number = o.number; manager = flagged n o.manager }
