-- 01, "Managers", Queue, enqueue and dequeue; and "Refusal numbers", Manual queueing: 1, 2, 12, 13.
use Rattle.std.specs.Prelude.{ℕ, zero, suc, ◌+◌, ◌-◌, Bool, List, [], ◌∷◌, leb, take}
use Rattle.units.specs.declared.Volume.{Volume}
use Rattle.units.specs.declared.Bundle.{Bundle}
use Rattle.units.specs.Logic.{pick, unless, all_of}
use Rattle.units.specs.Limits.{load_ok}
use Rattle.legacy.specs.declared.Queue.{Queue}
use Rattle.legacy.specs.declared.Booked.{Booked}
use Rattle.legacy.specs.Open.{at_least}
use Rattle.legacy.specs.Record.{queue_max, record_ok}
use Rattle.legacy.specs.DryRun.{class_of}

-- v added to the first k
unfoldable pub add_to : ℕ → ℕ → List Volume → List Volume
add_to zero v l = l
add_to (suc k) v [] = []
add_to (suc k) v (q ∷ l) = record { 0 = q.0 + v } ∷ add_to k v l

-- v taken from the first k
unfoldable pub take_from : ℕ → ℕ → List Volume → List Volume
take_from zero v l = l
take_from (suc k) v [] = []
take_from (suc k) v (q ∷ l) = record { 0 = q.0 - v } ∷ take_from k v l

-- a refusal hands the record back as it came
abbrev pub refused_queueing : ℕ → Queue → Booked
refused_queueing n r = record { number = n; manager = r }

-- the record with other queues
abbrev pub with_queues : Queue → List Volume → Queue
with_queues r l =
    record { choices = r.choices; window = r.window; rate = r.rate; delay = r.delay; classes = r.classes; flags = r.flags; queues = l; budgets = r.budgets }

-- classes 0 to the bundle's own: so many
abbrev pub reached : Queue → Bundle → ℕ
reached r b = class_of r.classes b.priority.0 + 1

abbrev pub room_for : ℕ → Volume → Bool
room_for v q = leb (q.0 + v) queue_max

-- enqueue adds the size to classes 0 to this one, all or none: 13 if a queue would pass 2^41
unfoldable pub enqueue_at : Queue → Bundle → Booked
enqueue_at r b =
    unless (all_of (room_for b.size.0) (take (reached r b) r.queues)) (refused_queueing 13 r)
    (record { number = 0; manager = with_queues r (add_to (reached r b) b.size.0 r.queues) })

-- dequeue subtracts it: 13 if a queue would fall below 0
unfoldable pub dequeue_at : Queue → Bundle → Booked
dequeue_at r b =
    unless (all_of (at_least b.size.0) (take (reached r b) r.queues)) (refused_queueing 13 r)
    (record { number = 0; manager = with_queues r (take_from (reached r b) b.size.0 r.queues) })

-- what manual queueing does, unless the manager updates itself
abbrev pub manually : Queue → Bundle → Booked → Booked
manually r b done =
    unless (record_ok r) (refused_queueing 1 r)
    (unless (load_ok b) (refused_queueing 2 r)
    (pick r.flags.self_update (refused_queueing 12 r)
    done))

unfoldable pub enqueue_of : Queue → Bundle → Booked
enqueue_of r b = manually r b (enqueue_at r b)

unfoldable pub dequeue_of : Queue → Bundle → Booked
dequeue_of r b = manually r b (dequeue_at r b)
