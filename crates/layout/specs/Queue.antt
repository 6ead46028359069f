-- 01, "The trace program", 04: flags, class count, start, end, rate, delay, 8 budgets; flags above 7 are no frame.
use Rattle.std.specs.Prelude.{ℕ, ◌/◌, ◌%◌, Bool, List, leb, eqb}
use Rattle.units.specs.declared.Volume.{Volume}
use Rattle.units.specs.Logic.{both}
use Rattle.legacy.specs.declared.Flags.{Flags}
use Rattle.legacy.specs.Open.{classes_max}
use Rattle.hexadecimal.specs.Digits.{byte_at}
use Rattle.hexadecimal.specs.Numbers.{number_at}
use Rattle.layout.specs.declared.queue.QueueOpening.{QueueOpening}
use Rattle.layout.specs.Fields.{interval_at, has_bytes}
use Rattle.layout.specs.Segments.{rows}

-- 1 added delay, 2 self-update, 4 budgeted
unfoldable pub flags_of : ℕ → Flags
flags_of n = record { add_delay = eqb (n % 2) 1; self_update = eqb (n / 2 % 2) 1; budgeted = eqb (n / 4 % 2) 1 }

abbrev pub budget_at : List ℕ → ℕ → Volume
budget_at line at = record { 0 = number_at line at }

abbrev pub no_budget : Volume
no_budget = record { 0 = 0 }

-- 8 budgets of 8 bytes
unfoldable pub budgets_at : List ℕ → ℕ → List Volume
budgets_at line at = rows (budget_at line) 8 at classes_max

-- a line of 99 bytes, its flags at most 7
unfoldable pub is_queue : List ℕ → Bool
is_queue line = both (has_bytes line 99) (leb (byte_at line 1) 7)

unfoldable pub queue_of : List ℕ → QueueOpening
queue_of line =
    record {
      window = interval_at line 3;
      rate = record { 0 = number_at line 19 };
      delay = record { 0 = number_at line 27 };
      classes = byte_at line 2;
      flags = flags_of (byte_at line 1);
      budgets = budgets_at line 35;
    }
