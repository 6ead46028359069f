-- Each call's promise determines its answer and the record. `Post` is the reading of the contract in src/.
use Prim.Native.Nat.{ℕ}
use mathlib.Core.Path.{◌≡◌, sym, ap, ◌∙◌}
use mathlib.Core.List.{List}
use denote.Ref.{MutBor}
use contract.Lifetimes.{Lfts}
use Rattle.std.specs.Prelude.{Result}
use Rattle.units.specs.declared.Date.{Date}
use Rattle.units.specs.declared.Interval.{Interval}
use Rattle.units.specs.declared.TxData.{TxData}
use Rattle.units.specs.declared.Bundle.{Bundle}
use Rattle.units.specs.declared.Volume.{Volume}
use Rattle.units.specs.declared.refusal.Refusal.{Refusal}
use Rattle.units.proofs.Refusals.{told-once}
use Rattle.units.proofs.Determined.{Determined}
use Rattle.segmentation.specs.declared.RateSegment.{RateSegment}
use Rattle.segmentation.specs.declared.DelaySegment.{DelaySegment}
use Rattle.contact.specs.declared.Choices.{Choices}
use Rattle.seg.specs.declared.FreeVolume.{FreeVolume}
use Rattle.seg.specs.declared.Booked.{Booked}
use Rattle.seg.proofs.FreeVolume.open.Reads as open-reads
use Rattle.seg.proofs.FreeVolume.ok.Reads as ok-reads
use Rattle.seg.proofs.FreeVolume.chosen.Reads as chosen-reads
use Rattle.seg.proofs.FreeVolume.dry_run_kept.Reads as dry-run-kept-reads
use Rattle.seg.proofs.FreeVolume.dry_run.Reads as dry-run-reads
use Rattle.seg.proofs.FreeVolume.book_here.Reads as book-here-reads
use Rattle.seg.proofs.FreeVolume.book_kept.Reads as book-kept-reads
use Rattle.seg.proofs.FreeVolume.book.Reads as book-reads
use Rattle.seg.proofs.FreeVolume.cut.Reads as cut-reads
use Rattle.seg.proofs.FreeVolume.list.Reads as list-reads
use Rattle.seg.proofs.FreeVolume.room_kept.Reads as room-kept-reads
use Rattle.seg.proofs.FreeVolume.room.Reads as room-reads

pub open-unique : (h : Choices) (w : Interval) (rates : List RateSegment) (m : ℕ) (delays : List DelaySegment) (k : ℕ) → Determined (open-reads.Post tt (h, (w, (rates, (m, (delays, (k, tt)))))))
open-unique h w rates m delays k r q x y f g = f ∙ sym g

module _ (self : FreeVolume) where
  pub ok-unique : Determined (ok-reads.Post tt (self, tt))
  ok-unique r q x y f g = f ∙ sym g

  pub chosen-unique : (at : Date) (b : Bundle) → Determined (chosen-reads.Post tt (self, (at, (b, tt))))
  chosen-unique at b r q x y f g = f ∙ sym g

  pub dry-run-kept-unique : (at : Date) (b : Bundle) → Determined (dry-run-kept-reads.Post tt (self, (at, (b, tt))))
  dry-run-kept-unique at b r q x y f g = f ∙ sym g

  pub dry-run-unique : (at : Date) (b : Bundle) → Determined (dry-run-reads.Post tt (self, (at, (b, tt))))
  dry-run-unique at b r q x y f g = f ∙ sym g

  pub book-kept-unique : (at : Date) (b : Bundle) (d : TxData) → Determined (book-kept-reads.Post tt (self, (at, (b, (d, tt)))))
  book-kept-unique at b d r q x y f g = f ∙ sym g

  pub book-unique : (at : Date) (b : Bundle) (d : TxData) → Determined (book-reads.Post tt (self, (at, (b, (d, tt)))))
  book-unique at b d r q x y f g = f ∙ sym g

  pub cut-unique : (place : ℕ) (send : Interval) (size : Volume) → Determined (cut-reads.Post tt (self, (place, (send, (size, tt)))))
  cut-unique place send size r q x y f g = f.0 ∙ sym g.0

  pub list-unique : Determined (list-reads.Post tt (self, tt))
  list-unique r q x y f g = f ∙ sym g

  pub room-kept-unique : Determined (room-kept-reads.Post tt (self, tt))
  room-kept-unique r q x y f g = f ∙ sym g

  pub room-unique : Determined (room-reads.Post tt (self, tt))
  room-unique r q x y f g = f ∙ sym g

-- a record that is lent comes back changed: the answer, and what stands behind the reference
pub book-here-unique : (lf : Lfts 1) (self : MutBor FreeVolume) (at : Date) (b : Bundle) (d : TxData) (r q : Result Unit Refusal) (x y : _)
    → book-here-reads.Post lf (self, (at, (b, (d, tt)))) r x → book-here-reads.Post lf (self, (at, (b, (d, tt)))) q y → (r ≡ q) × (x.0.now ≡ y.0.now)
book-here-unique lf self at b d r q x y f g =
    let same = f ∙ sym g in
    (told-once r q (ap (λ (a : Booked). a.number) same), ap (λ (a : Booked). a.manager) same)
