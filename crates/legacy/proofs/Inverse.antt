-- After an accepted enqueue and the same dequeue the record is as before.
use Prim.Native.Nat.{ℕ, ◌+◌, ◌-◌}
use mathlib.Core.Bool.{true}
use mathlib.Core.Path.{◌≡◌, refl, sym, ap, ◌∙◌}
use mathlib.Core.List.{List}
use native.Mathlib.Omega.{arith}
use lib.ListN.{take}
use borrow.Author.Tests.{le-leb}
use Rattle.units.specs.declared.Volume.{Volume}
use Rattle.units.specs.declared.Bundle.{Bundle}
use Rattle.units.specs.Logic.{all_of}
use Rattle.units.proofs.Logic.{unless-go}
use Rattle.units.proofs.Choice.{pick_no}
use Rattle.legacy.specs.declared.Queue.{Queue}
use Rattle.legacy.specs.declared.Booked.{Booked}
use Rattle.legacy.specs.Open.{at_least}
use Rattle.legacy.specs.Record.{record_ok}
use Rattle.legacy.specs.Queueing.{add_to, take_from, with_queues, reached, dequeue_at, enqueue_of, dequeue_of}
use Rattle.legacy.proofs.Answers.{Manual, put_keeps, enqueue-keeps}
use Rattle.legacy.proofs.First.{more, less, add_is, take-is, first_passes, first-undo}
use Rattle.legacy.proofs.Kept.{enqueue-ok}

-- what was added is taken again
undone : (k v : ℕ) (l : List Volume) → take_from k v (add_to k v l) ≡ l
undone k v l = rw (add_is k v l, take-is) (first-undo (more v) (less v) (λ q. ap (λ (n : ℕ). record { 0 = n }) (back q)) k l)
  where
    back : (q : Volume) → q.0 + v - v ≡ q.0
    back q = omega arith

-- and is there to be taken
there : (k v : ℕ) (l : List Volume) → all_of (at_least v) (take k (add_to k v l)) ≡ true
there k v l = rw (add_is k v l) (first_passes (more v) (at_least v) (λ q. le-leb v (q.0 + v) (omega arith)) k l)

module _ (r : Queue) (b : Bundle) where
  abbrev queued : Queue
  queued = with_queues r (add_to (reached r b) b.size.0 r.queues)

  abbrev Accepted : Booked → Type 0
  Accepted o = o.number ≡ 0 → (Manual r b) × (o.manager ≡ queued)

  accepted : Accepted (enqueue_of r b)
  accepted =
      enqueue-keeps r b Accepted (λ n h e. absurd (omega arith))
      (λ m. put_keeps r b Accepted (λ n h e. absurd (omega arith)) (λ _ _. (m, refl)))

  dequeued : Manual r b → record_ok queued ≡ true → dequeue_of queued b ≡ record { number = 0; manager = r }
  unfolding dequeue_of dequeue_at
  dequeued m ok =
      let k = reached r b in
      let v = b.size.0 in
      unless-go _ _ _ ok ∙ unless-go _ _ _ m.fair ∙ pick_no _ _ _ m.manual ∙ unless-go _ _ _ (there k v r.queues)
      ∙ ap (λ (l : List Volume). record { number = 0; manager = with_queues r l }) (undone k v r.queues)

  pub enqueue-dequeue : (enqueue_of r b).number ≡ 0 → dequeue_of (enqueue_of r b).manager b ≡ record { number = 0; manager = r }
  enqueue-dequeue e =
      let a = accepted e in
      ap (λ (q : Queue). dequeue_of q b) a.1 ∙ dequeued a.0 (sym (ap record_ok a.1) ∙ enqueue-ok r b a.0.kept)
