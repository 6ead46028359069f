-- 01, "Numbers" and "Refusal numbers", the queue manager's opening: 3, 6, 5, 14 in this order, and 02's 2 before all else; all queues begin at zero.
use Rattle.std.specs.Prelude.{ℕ, ◌-◌, ◌*◌, Bool, false, List, leb, eqb, take, drop, replicate}
use Rattle.units.specs.declared.Volume.{Volume}
use Rattle.units.specs.declared.Rate.{Rate}
use Rattle.units.specs.declared.Delay.{Delay}
use Rattle.units.specs.declared.Interval.{Interval}
use Rattle.units.specs.Logic.{both, unless, pick, all_of}
use Rattle.units.specs.Limits.{rate_max, volume_max, delay_max, window_ok}
use Rattle.units.specs.Answer.{interval}
use Rattle.legacy.specs.declared.Choices.{Choices}
use Rattle.legacy.specs.declared.Flags.{Flags}
use Rattle.legacy.specs.declared.Opened.{Opened}
use Rattle.legacy.specs.Choices.{unchosen, choices_ok}

-- 8 queue classes; a budget is a volume, 0 to 2^38
abbrev pub classes_max : ℕ
classes_max = 8

abbrev pub budget_max : ℕ
budget_max = volume_max

abbrev pub at_most : ℕ → Volume → Bool
at_most most v = leb v.0 most

abbrev pub at_least : ℕ → Volume → Bool
at_least least v = leb least v.0

abbrev pub is_zero : Volume → Bool
is_zero v = eqb v.0 0

abbrev pub zeros : List Volume
zeros = replicate classes_max (record { 0 = 0 })

-- refusal 6: the rate 1 to 2^38, length x rate at most 2^38
unfoldable pub rate_ok : Interval → ℕ → Bool
rate_ok w r =
    both (leb 1 r) (both (leb r rate_max) (leb ((w.end.0 - w.start.0) * r) volume_max))

-- refusal 14: 1 to 8 classes, each budget 0 to 2^38, and zero past the class count or when unbudgeted
unfoldable pub budgets_ok : ℕ → Flags → List Volume → Bool
budgets_ok n flags l =
    let used = pick flags.budgeted n 0 in
    both (leb 1 n) (both (leb n classes_max) (both (all_of (at_most budget_max) (take used l)) (all_of is_zero (drop used l))))

-- a refused opening returns an all-zero record
abbrev pub refused_opening : ℕ → Opened
refused_opening n =
    record {
      number = n;
      manager = record {
        choices = unchosen;
        window = interval 0 0;
        rate = record { 0 = 0 };
        delay = record { 0 = 0 };
        classes = 0;
        flags = record { add_delay = false; self_update = false; budgeted = false };
        queues = zeros;
        budgets = zeros;
      };
    }

-- the opening
unfoldable pub open_of : Choices → Interval → Rate → Delay → ℕ → Flags → List Volume → Opened
open_of h w r d n flags budgets =
    unless (choices_ok h) (refused_opening 2)
    (unless (window_ok w) (refused_opening 3)
    (unless (rate_ok w r.0) (refused_opening 6)
    (unless (leb d.0 delay_max) (refused_opening 5)
    (unless (budgets_ok n flags budgets) (refused_opening 14)
    (record {
      number = 0;
      manager = record { choices = h; window = w; rate = r; delay = d; classes = n; flags = flags; queues = zeros; budgets = budgets };
    })))))
