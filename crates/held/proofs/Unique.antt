-- Each public call's promise determines its answer and all that is held after it. `Post` is the reading of the contract in src/.
use Prim.Native.Nat.{ℕ}
use mathlib.Core.Path.{sym, ◌∙◌}
use Rattle.units.specs.declared.Date.{Date}
use Rattle.units.specs.declared.TxData.{TxData}
use Rattle.units.specs.declared.Bundle.{Bundle}
use Rattle.units.proofs.Determined.{Determined}
use Rattle.held.specs.declared.Held.{Held}
use Rattle.held.proofs.Held.nothing.Reads as nothing-reads
use Rattle.held.proofs.Held.refused.Reads as refused-reads
use Rattle.held.proofs.Held.kept.Reads as kept-reads
use Rattle.held.proofs.Held.dry_run.Reads as dry-run-reads
use Rattle.held.proofs.Held.book.Reads as book-reads
use Rattle.held.proofs.Held.enqueue.Reads as enqueue-reads
use Rattle.held.proofs.Held.dequeue.Reads as dequeue-reads

pub nothing-unique : Determined (nothing-reads.Post tt tt)
nothing-unique r q x y f g = f ∙ sym g

module _ (self : Held) where
  pub kept-unique : (n : ℕ) (next : Held) → Determined (kept-reads.Post tt (self, (n, (next, tt))))
  kept-unique n next r q x y f g = f ∙ sym g

  pub refused-unique : (n : ℕ) → Determined (refused-reads.Post tt (self, (n, tt)))
  refused-unique n r q x y f g = f ∙ sym g

  pub dry-run-unique : (at : Date) (b : Bundle) → Determined (dry-run-reads.Post tt (self, (at, (b, tt))))
  dry-run-unique at b r q x y f g = f ∙ sym g

  pub book-unique : (at : Date) (b : Bundle) (d : TxData) → Determined (book-reads.Post tt (self, (at, (b, (d, tt)))))
  book-unique at b d r q x y f g = f ∙ sym g

  pub enqueue-unique : (b : Bundle) → Determined (enqueue-reads.Post tt (self, (b, tt)))
  enqueue-unique b r q x y f g = f ∙ sym g

  pub dequeue-unique : (b : Bundle) → Determined (dequeue-reads.Post tt (self, (b, tt)))
  dequeue-unique b r q x y f g = f ∙ sym g
