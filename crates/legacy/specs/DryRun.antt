-- 01, "Managers", Queue, the offer; and "Refusal numbers", Dry run: 1, 2, then 7.
use Rattle.std.specs.Prelude.{ℕ, ◌+◌, ◌-◌, ◌*◌, ◌/◌, min, max, leb, get_or}
use Rattle.units.specs.declared.Date.{Date}
use Rattle.units.specs.declared.Bundle.{Bundle}
use Rattle.units.specs.declared.Offer.{Offer}
use Rattle.units.specs.Logic.{pick, unless}
use Rattle.units.specs.Limits.{bundle_ok}
use Rattle.units.specs.Answer.{refused, offered}
use Rattle.legacy.specs.declared.Queue.{Queue}
use Rattle.legacy.specs.Record.{record_ok}

-- the class is the priority, at most the last
abbrev pub class_of : ℕ → ℕ → ℕ
class_of n p = min p (n - 1)

abbrev pub queue_at : Queue → ℕ → ℕ
queue_at r p = (get_or r.queues (class_of r.classes p) (record { 0 = 0 })).0

-- the class's budget; unbudgeted, window length x rate
abbrev pub budget_at : Queue → ℕ → ℕ
budget_at r p =
    pick r.flags.budgeted
    (get_or r.budgets (class_of r.classes p) (record { 0 = 0 })).0
    ((r.window.end.0 - r.window.start.0) * r.rate.0)

-- with added delay and self-update the window's start moves by queue / rate before the later of it and the asked time t is
-- taken; with added delay only, the result moves so
abbrev pub start_at : Queue → ℕ → ℕ → ℕ
start_at r t queue =
    let from = r.window.start.0 in
    let wait = queue / r.rate.0 in
    pick r.flags.add_delay
    (pick r.flags.self_update (max (from + wait) t) (max from t + wait))
    (max from t)

-- 7 if the size is above budget - queue, or the end, rounded down, is past the window
unfoldable pub answer_at : Queue → ℕ → Bundle → Offer
answer_at r t b =
    let v = b.size.0 in
    let queue = queue_at r b.priority.0 in
    let s = start_at r t queue in
    let e = s + v / r.rate.0 in
    unless (leb (queue + v) (budget_at r b.priority.0)) (refused 7)
    (unless (leb e r.window.end.0) (refused 7)
    (offered s e r.delay.0 r.delay.0))

-- the dry run
unfoldable pub dry_run_of : Queue → Date → Bundle → Offer
dry_run_of r at b =
    unless (record_ok r) (refused 1)
    (unless (bundle_ok at b) (refused 2)
    (answer_at r at.0 b))
