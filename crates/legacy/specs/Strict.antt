-- 02, R-7: a record, a booking's answer and an opening's with the flag at a number, and all else as it is.
use Rattle.std.specs.Prelude.{ℕ}
use Rattle.legacy.specs.declared.Queue.{Queue}
use Rattle.legacy.specs.declared.Opened.{Opened}
use Rattle.legacy.specs.declared.Booked.{Booked}
use Rattle.legacy.specs.Choices.{flagging}

-- the record
abbrev pub flagged : ℕ → Queue → Queue
flagged n r =
    record {
      choices = flagging n r.choices;
      window = r.window;
      rate = r.rate;
      delay = r.delay;
      classes = r.classes;
      flags = r.flags;
      queues = r.queues;
      budgets = r.budgets;
    }

-- a booking's answer: the same number, and the record that it hands back
abbrev pub turned : ℕ → Booked → Booked
turned n a = record { number = a.number; manager = flagged n a.manager }

-- an accepted opening's answer
abbrev pub turned_opening : ℕ → Opened → Opened
turned_opening n o = record { number = o.number; manager = flagged n o.manager }
