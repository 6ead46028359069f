-- Each public call's promise determines its answer, and the whole line that it leaves behind the reference. `Post` is the reading of the contract in src/.
use Prim.Native.Nat.{ℕ}
use mathlib.Core.Path.{◌≡◌, sym, ap, ◌∙◌}
use mathlib.Core.List.{List}
use borrow.Fn.Kinds.{Dens, ended_of}
use denote.Triple.Clauses.{AtExit}
use contract.Lifetimes.{Lfts}
use Rattle.units.proofs.Determined.{Determined}
use Rattle.frames.proofs.is_line.Kinds as is-line-kinds
use Rattle.frames.proofs.is_line.Reads as is-line-reads
use Rattle.frames.proofs.can_change.Kinds as can-change-kinds
use Rattle.frames.proofs.can_change.Reads as can-change-reads
use Rattle.frames.proofs.change.Kinds as change-kinds
use Rattle.frames.proofs.change.Reads as change-reads
use Rattle.frames.proofs.opening.open.Kinds as open-kinds
use Rattle.frames.proofs.opening.open.Reads as open-reads
use Rattle.frames.specs.declared.opening.Opens.{Ghosts}
use denote.RattleType.{RattleType}
use denote.Param.Laws.{Laws}
use mir.Syntax.{Dict}
use Rattle.frames.proofs.frame.of.Kinds as frame-of-kinds
use Rattle.frames.proofs.frame.of.Reads as frame-of-reads
use Rattle.frames.proofs.queueing.call.Kinds as queueing-call-kinds
use Rattle.frames.proofs.queueing.call.Reads as queueing-call-reads
use Rattle.frames.proofs.calls.offer.Kinds as offer-kinds
use Rattle.frames.proofs.calls.offer.Reads as offer-reads
use Rattle.frames.proofs.calls.book.Kinds as book-kinds
use Rattle.frames.proofs.calls.book.Reads as book-reads
use Rattle.frames.proofs.calls.enqueue.Kinds as enqueue-kinds
use Rattle.frames.proofs.calls.enqueue.Reads as enqueue-reads
use Rattle.frames.proofs.calls.dequeue.Kinds as dequeue-kinds
use Rattle.frames.proofs.calls.dequeue.Reads as dequeue-reads
use Rattle.frames.proofs.calls.list.Kinds as list-kinds
use Rattle.frames.proofs.calls.list.Reads as list-reads
use Rattle.frames.proofs.calls.room.Kinds as room-kinds
use Rattle.frames.proofs.calls.room.Reads as room-reads
use Rattle.frames.proofs.show.Kinds as show-kinds
use Rattle.frames.proofs.show.Reads as show-reads
use Rattle.frames.proofs.step.Kinds as step-kinds
use Rattle.frames.proofs.step.Reads as step-reads

module _ (κs : Lfts 1) where
  pub is-line-unique : (a : Dens κs is-line-kinds.ps) → Determined (is-line-reads.Post κs a)
  is-line-unique a r q x y f g = f ∙ sym g

  pub can-change-unique : (a : Dens κs can-change-kinds.ps) → Determined (can-change-reads.Post κs a)
  can-change-unique a r q x y f g = f ∙ sym g

  pub change-unique : (a : Dens κs change-kinds.ps) → Determined (change-reads.Post κs a)
  change-unique a r q x y f g = f ∙ sym g

  pub frame-of-unique : (a : Dens κs frame-of-kinds.ps) → Determined (frame-of-reads.Post κs a)
  frame-of-unique a r q x y f g = f ∙ sym g

  pub queueing-call-unique : (a : Dens κs queueing-call-kinds.ps) → Determined (queueing-call-reads.Post κs a)
  queueing-call-unique a r q x y f g = f ∙ sym g

  pub offer-unique : (a : Dens κs offer-kinds.ps) → Determined (offer-reads.Post κs a)
  offer-unique a r q x y f g = f ∙ sym g

  pub book-unique : (a : Dens κs book-kinds.ps) → Determined (book-reads.Post κs a)
  book-unique a r q x y f g = f ∙ sym g

  pub enqueue-unique : (a : Dens κs enqueue-kinds.ps) → Determined (enqueue-reads.Post κs a)
  enqueue-unique a r q x y f g = f ∙ sym g

  pub dequeue-unique : (a : Dens κs dequeue-kinds.ps) → Determined (dequeue-reads.Post κs a)
  dequeue-unique a r q x y f g = f ∙ sym g

-- an answer, with what stands behind the reference at the end
abbrev Leaves : {R X : Type 0} → (X → List ℕ) → (R → X → Type 0) → R × List ℕ → X → Type 0
Leaves behind P o x = (o.1 ≡ behind x) × P o.0 x

-- a promise that names both
named : {R X : Type 0} (behind : X → List ℕ) (n : R) (text : List ℕ) → Determined (Leaves behind (λ (r : R) (x : X). (r ≡ n) × (behind x ≡ text)))
named {R} behind n text r q x y f g =
    ap (λ (a : R). (a, r.1)) (f.1.0 ∙ sym g.1.0) ∙ ap (λ (l : List ℕ). (q.0, l)) (f.0 ∙ f.1.1 ∙ sym (g.0 ∙ g.1.1))

module _ (κs : Lfts 2) where
  pub list-unique : (a : Dens κs list-kinds.ps)
      → Determined (Leaves (λ (s : AtExit (ended_of 2 list-kinds.ps list-kinds.r) κs). s.0.now) (list-reads.Post κs a))
  list-unique a = named _ _ _

  pub room-unique : (a : Dens κs room-kinds.ps)
      → Determined (Leaves (λ (s : AtExit (ended_of 2 room-kinds.ps room-kinds.r) κs). s.0.now) (room-reads.Post κs a))
  room-unique a = named _ _ _

  pub show-unique : (a : Dens κs show-kinds.ps)
      → Determined (Leaves (λ (s : AtExit (ended_of 2 show-kinds.ps show-kinds.r) κs). s.0.now) (show-reads.Post κs a))
  show-unique a = named _ _ _

  pub step-unique : (a : Dens κs step-kinds.ps)
      → Determined (Leaves (λ (s : AtExit (ended_of 2 step-kinds.ps step-kinds.r) κs). s.0.now) (step-reads.Post κs a))
  step-unique a = named _ _ _

-- an opening, of whatever a line opens
module _ (T : RattleType) (L : Laws T) (opens : Ghosts T.Denot) (d : Dict) (κs : Lfts 2) where
  pub open-unique : (a : Dens κs (open-kinds.ps T L)) → Determined (open-reads.Post T L opens d κs a)
  open-unique a r q x y f g = f ∙ sym g
