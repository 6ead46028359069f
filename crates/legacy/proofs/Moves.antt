-- Enqueue and dequeue from what the code has worked out: the class, the test of the queues up to it, and the new queues.
use Prim.Native.Nat.{ℕ, ◌+◌, ◌-◌, ◌≤◌}
use mathlib.Core.Bool.{true, false}
use mathlib.Core.Path.{◌≡◌, ◌∙◌}
use mathlib.Core.List.{List}
use native.Mathlib.Omega.{arith}
use lib.ListN.{take}
use borrow.Author.Tests.{leb-true, le-leb}
use Rattle.units.specs.Limits.{volume_max}
use Rattle.units.specs.declared.Volume.{Volume}
use Rattle.units.specs.declared.Bundle.{Bundle}
use Rattle.units.specs.Logic.{all_of}
use Rattle.units.proofs.Logic.{unless-go, unless-stop}
use Rattle.units.proofs.Each.{all_alike}
use Rattle.legacy.specs.declared.Queue.{Queue}
use Rattle.legacy.specs.Open.{at_most, at_least}
use Rattle.legacy.specs.Record.{queue_max}
use Rattle.legacy.specs.DryRun.{class_of}
use Rattle.legacy.specs.Queueing.{add_to, take_from, with_queues, refused_queueing, room_for, enqueue_at, dequeue_at}

-- room for the size is what the code compares with
room : (v : ℕ) → v ≤ volume_max → (q : Volume) → room_for v q ≡ true → at_most (queue_max - v) q ≡ true
room v h q e = let k = leb-true (q.0 + v) queue_max e in le-leb q.0 (queue_max - v) (omega arith)

room_back : (v : ℕ) → v ≤ volume_max → (q : Volume) → at_most (queue_max - v) q ≡ true → room_for v q ≡ true
room_back v h q e = let k = leb-true q.0 (queue_max - v) e in le-leb (q.0 + v) queue_max (omega arith)

pub room-is : (v : ℕ) (l : List Volume) → v ≤ volume_max → all_of (room_for v) l ≡ all_of (at_most (queue_max - v)) l
room-is v l h = all_alike (room_for v) (at_most (queue_max - v)) (room v h) (room_back v h) l

module _ (r : Queue) (b : Bundle) (k : ℕ) (is : k ≡ class_of r.classes b.priority.0) where
  module _ (small : b.size.0 ≤ volume_max) where
    tested : all_of (room_for b.size.0) (take (class_of r.classes b.priority.0 + 1) r.queues) ≡ all_of (at_most (queue_max - b.size.0)) (take (k + 1) r.queues)
    tested = rw is (room-is _ _ small)

    pub put-stop : all_of (at_most (queue_max - b.size.0)) (take (k + 1) r.queues) ≡ false → enqueue_at r b ≡ refused_queueing 13 r
    unfolding enqueue_at
    put-stop e = unless-stop _ _ _ (tested ∙ e)

    pub put_go : all_of (at_most (queue_max - b.size.0)) (take (k + 1) r.queues) ≡ true → (l : List Volume) → l ≡ add_to (k + 1) b.size.0 r.queues
        → enqueue_at r b ≡ record { number = 0; manager = with_queues r l }
    unfolding enqueue_at
    put_go e l f = unless-go _ _ _ (tested ∙ e) ∙ rw (f, is)

  held : all_of (at_least b.size.0) (take (class_of r.classes b.priority.0 + 1) r.queues) ≡ all_of (at_least b.size.0) (take (k + 1) r.queues)
  held = rw is

  pub pull-stop : all_of (at_least b.size.0) (take (k + 1) r.queues) ≡ false → dequeue_at r b ≡ refused_queueing 13 r
  unfolding dequeue_at
  pull-stop e = unless-stop _ _ _ (held ∙ e)

  pub pull-go : all_of (at_least b.size.0) (take (k + 1) r.queues) ≡ true → (l : List Volume) → l ≡ take_from (k + 1) b.size.0 r.queues
      → dequeue_at r b ≡ record { number = 0; manager = with_queues r l }
  unfolding dequeue_at
  pull-go e l f = unless-go _ _ _ (held ∙ e) ∙ rw (f, is)
