-- 01, "Records", the queue record: all that the opening tests holds, queues 0 to 2^41, unused places zero.
use Rattle.std.specs.Prelude.{ℕ, ◌*◌, Bool, eqb, take, drop}
use Rattle.units.specs.Logic.{both, all_of}
use Rattle.legacy.specs.declared.Queue.{Queue}
use Rattle.legacy.specs.Open.{classes_max, budget_max, at_most, is_zero, open_of}

-- the most that a queue holds, 2^41: as much as the budgets of all classes
abbrev pub queue_max : ℕ
queue_max = classes_max * budget_max

-- the strict flag that it names
abbrev pub strict_of : Queue → ℕ
strict_of r = r.choices.strict.0

-- an opening with the record's own figures is done, and its queues are inside their limits, zero past the class count
unfoldable pub record_ok : Queue → Bool
record_ok r =
    both (eqb (open_of r.choices r.window r.rate r.delay r.classes r.flags r.budgets).number 0)
    (both (all_of (at_most queue_max) (take r.classes r.queues))
    (all_of is_zero (drop r.classes r.queues)))
