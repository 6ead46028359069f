-- Each public call's promise determines its answer and the record handed back: two answers that meet it are equal. `Post` is the reading of the contract in src/.
use Prim.Native.Nat.{ℕ}
use mathlib.Core.Path.{◌≡◌, sym, ◌∙◌}
use mathlib.Core.List.{List}
use denote.Ref.{Bor, MutBor}
use contract.Lifetimes.{Lfts}
use Rattle.units.specs.declared.Date.{Date}
use Rattle.units.specs.declared.Volume.{Volume}
use Rattle.units.specs.declared.Rate.{Rate}
use Rattle.units.specs.declared.Delay.{Delay}
use Rattle.units.specs.declared.Priority.{Priority}
use Rattle.units.specs.declared.Interval.{Interval}
use Rattle.units.specs.declared.TxData.{TxData}
use Rattle.units.specs.declared.Bundle.{Bundle}
use Rattle.units.proofs.Determined.{Determined}
use Rattle.legacy.specs.declared.Choices.{Choices}
use Rattle.legacy.specs.declared.Flags.{Flags}
use Rattle.legacy.specs.declared.Queue.{Queue}
use Rattle.legacy.proofs.Choices.ported.Reads as ported-reads
use Rattle.legacy.proofs.Choices.ok.Reads as choices-ok-reads
use Rattle.legacy.proofs.Queue.open.Reads as open-reads
use Rattle.legacy.proofs.Queue.ok.Reads as ok-reads
use Rattle.legacy.proofs.Queue.rate_ok.Reads as rate-ok-reads
use Rattle.legacy.proofs.Queue.budgets_ok.Reads as budgets-ok-reads
use Rattle.legacy.proofs.Queue.class.Reads as class-reads
use Rattle.legacy.proofs.Queue.dry_run_kept.Reads as dry-run-kept-reads
use Rattle.legacy.proofs.Queue.dry_run.Reads as dry-run-reads
use Rattle.legacy.proofs.Queue.book_kept.Reads as book-kept-reads
use Rattle.legacy.proofs.Queue.book.Reads as book-reads
use Rattle.legacy.proofs.Queue.enqueue_kept.Reads as enqueue-kept-reads
use Rattle.legacy.proofs.Queue.enqueue.Reads as enqueue-reads
use Rattle.legacy.proofs.Queue.dequeue_kept.Reads as dequeue-kept-reads
use Rattle.legacy.proofs.Queue.dequeue.Reads as dequeue-reads
use Rattle.legacy.proofs.Queue.list.Reads as list-reads
use Rattle.legacy.proofs.volumes.within.Reads as within-reads
use Rattle.legacy.proofs.volumes.hold.Reads as hold-reads
use Rattle.legacy.proofs.volumes.add.Reads as add_reads
use Rattle.legacy.proofs.volumes.take.Reads as take-reads

pub ported-unique : Determined (ported-reads.Post tt tt)
ported-unique r q x y f g = f ∙ sym g

pub choices-ok-unique : (h : Choices) → Determined (choices-ok-reads.Post tt (h, tt))
choices-ok-unique h r q x y f g = f ∙ sym g

pub open-unique : (h : Choices) (w : Interval) (rate : Rate) (d : Delay) (n : ℕ) (flags : Flags) (budgets : List Volume) → Determined (open-reads.Post tt (h, (w, (rate, (d, (n, (flags, (budgets, tt))))))))
open-unique h w rate d n flags budgets r q x y f g = f ∙ sym g

pub rate-ok-unique : (w : Interval) (rate : Rate) → Determined (rate-ok-reads.Post tt (w, (rate, tt)))
rate-ok-unique w rate r q x y f g = f ∙ sym g

pub budgets-ok-unique : (n : ℕ) (flags : Flags) (budgets : List Volume) → Determined (budgets-ok-reads.Post tt (n, (flags, (budgets, tt))))
budgets-ok-unique n flags budgets r q x y f g = f ∙ sym g

module _ (self : Queue) where
  pub ok-unique : Determined (ok-reads.Post tt (self, tt))
  ok-unique r q x y f g = f ∙ sym g

  pub class-unique : (p : Priority) → Determined (class-reads.Post tt (self, (p, tt)))
  class-unique p r q x y f g = f ∙ sym g

  pub list-unique : Determined (list-reads.Post tt (self, tt))
  list-unique r q x y f g = f ∙ sym g

  module _ (b : Bundle) where
    pub enqueue-kept-unique : Determined (enqueue-kept-reads.Post tt (self, (b, tt)))
    enqueue-kept-unique r q x y f g = f ∙ sym g

    pub enqueue-unique : Determined (enqueue-reads.Post tt (self, (b, tt)))
    enqueue-unique r q x y f g = f ∙ sym g

    pub dequeue-kept-unique : Determined (dequeue-kept-reads.Post tt (self, (b, tt)))
    dequeue-kept-unique r q x y f g = f ∙ sym g

    pub dequeue-unique : Determined (dequeue-reads.Post tt (self, (b, tt)))
    dequeue-unique r q x y f g = f ∙ sym g

    pub dry-run-kept-unique : (at : Date) → Determined (dry-run-kept-reads.Post tt (self, (at, (b, tt))))
    dry-run-kept-unique at r q x y f g = f ∙ sym g

    pub dry-run-unique : (at : Date) → Determined (dry-run-reads.Post tt (self, (at, (b, tt))))
    dry-run-unique at r q x y f g = f ∙ sym g

    pub book-kept-unique : (at : Date) (d : TxData) → Determined (book-kept-reads.Post tt (self, (at, (b, (d, tt)))))
    book-kept-unique at d r q x y f g = f ∙ sym g

    pub book-unique : (at : Date) (d : TxData) → Determined (book-reads.Post tt (self, (at, (b, (d, tt)))))
    book-unique at d r q x y f g = f ∙ sym g

-- the classes' volumes
module _ (lf : Lfts 1) where
  module _ (l : Bor (List Volume)) where
    pub within-unique : (most : ℕ) → Determined (within-reads.Post lf (l, (most, tt)))
    within-unique most r q x y f g = f ∙ sym g

    pub hold-unique : (size : Volume) → Determined (hold-reads.Post lf (l, (size, tt)))
    hold-unique size r q x y f g = f ∙ sym g

  -- what is lent comes back changed
  module _ (l : MutBor (List Volume)) (size : Volume) (x y : _) where
    pub add-unique : add_reads.Post lf (l, (size, tt)) tt x → add_reads.Post lf (l, (size, tt)) tt y → x.0.now ≡ y.0.now
    add-unique f g = f ∙ sym g

    pub take-unique : take-reads.Post lf (l, (size, tt)) tt x → take-reads.Post lf (l, (size, tt)) tt y → x.0.now ≡ y.0.now
    take-unique f g = f ∙ sym g
