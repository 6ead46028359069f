-- Each call's promise determines its answer and the record. `Post` is the reading of the contract in src/.
use Prim.Native.Nat.{ℕ}
use mathlib.Core.Path.{◌≡◌, sym, ap, ◌∙◌}
use mathlib.Core.List.{List}
use contract.Lifetimes.{Lfts}
use Rattle.std.proofs.Common.{MutBor, Result}
use Rattle.units.specs.declared.Date.{Date}
use Rattle.units.specs.declared.Priority.{Priority}
use Rattle.units.specs.declared.Interval.{Interval}
use Rattle.units.specs.declared.TxData.{TxData}
use Rattle.units.specs.declared.Bundle.{Bundle}
use Rattle.units.specs.declared.refusal.Refusal.{Refusal}
use Rattle.units.proofs.Determined.{Determined}
use Rattle.units.proofs.Refusals.{told-once}
use Rattle.segmentation.specs.declared.RateSegment.{RateSegment}
use Rattle.segmentation.specs.declared.DelaySegment.{DelaySegment}
use Rattle.contact.specs.declared.Choices.{Choices}
use Rattle.pseg.specs.declared.PrioritySeg.{PrioritySeg}
use Rattle.pseg.specs.declared.Booked.{Booked}
use Rattle.pseg.proofs.PrioritySeg.open.Reads as open-reads
use Rattle.pseg.proofs.PrioritySeg.ok.Reads as ok-reads
use Rattle.pseg.proofs.PrioritySeg.dry_run_kept.Reads as dry-run-kept-reads
use Rattle.pseg.proofs.PrioritySeg.dry_run.Reads as dry-run-reads
use Rattle.pseg.proofs.PrioritySeg.book_kept.Reads as book-kept-reads
use Rattle.pseg.proofs.PrioritySeg.book.Reads as book-reads
use Rattle.pseg.proofs.PrioritySeg.book_here.Reads as book-here-reads
use Rattle.pseg.proofs.PrioritySeg.set.Reads as set_Reads
use Rattle.pseg.proofs.PrioritySeg.list.Reads as list-reads

pub open-unique : (h : Choices) (w : Interval) (rates : List RateSegment) (m : ℕ) (delays : List DelaySegment) (k : ℕ) → Determined (open-reads.Post tt (h, (w, (rates, (m, (delays, (k, tt)))))))
open-unique h w rates m delays k r q x y f g = f ∙ sym g

module _ (self : PrioritySeg) where
  pub ok-unique : Determined (ok-reads.Post tt (self, tt))
  ok-unique r q x y f g = f ∙ sym g

  pub dry-run-kept-unique : (at : Date) (b : Bundle) → Determined (dry-run-kept-reads.Post tt (self, (at, (b, tt))))
  dry-run-kept-unique at b r q x y f g = f ∙ sym g

  pub dry-run-unique : (at : Date) (b : Bundle) → Determined (dry-run-reads.Post tt (self, (at, (b, tt))))
  dry-run-unique at b r q x y f g = f ∙ sym g

  pub book-kept-unique : (at : Date) (b : Bundle) (d : TxData) → Determined (book-kept-reads.Post tt (self, (at, (b, (d, tt)))))
  book-kept-unique at b d r q x y f g = f ∙ sym g

  pub book-unique : (at : Date) (b : Bundle) (d : TxData) → Determined (book-reads.Post tt (self, (at, (b, (d, tt)))))
  book-unique at b d r q x y f g = f ∙ sym g

  pub set-unique : (send : Interval) (priority : Priority) → Determined (set_Reads.Post tt (self, (send, (priority, tt))))
  set-unique send priority r q x y f g = f ∙ sym g

  pub list-unique : Determined (list-reads.Post tt (self, tt))
  list-unique r q x y f g = f ∙ sym g

-- a booking where the record stands: what it answers, and the record that is left there
module _ (lf : Lfts 1) (self : MutBor PrioritySeg) (at : Date) (b : Bundle) (d : TxData) (r q : Result Unit Refusal) (x y : _) where
  pub book-here-unique : book-here-reads.Post lf (self, (at, (b, (d, tt)))) r x → book-here-reads.Post lf (self, (at, (b, (d, tt)))) q y → (r ≡ q) × (x.0.now ≡ y.0.now)
  book-here-unique f g =
      let is = f ∙ sym g in
      (told-once r q (ap (λ (z : Booked). z.number) is), ap (λ (z : Booked). z.manager) is)
