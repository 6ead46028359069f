-- Each call's promise determines its answer. `Post` is the reading of the contract in src/.
use Prim.Native.Nat.{ℕ}
use mathlib.Core.Path.{◌≡◌, sym, ap, ◌∙◌}
use mathlib.Core.List.{List}
use contract.Lifetimes.{Lfts}
use borrow.Fn.Kinds.{Dens, ended_of}
use denote.Triple.Clauses.{AtExit}
use denote.Bor.{Bor}
use denote.MutBor.{MutBor}
use Rattle.units.specs.declared.Date.{Date}
use Rattle.units.specs.declared.Interval.{Interval}
use Rattle.units.specs.declared.Volume.{Volume}
use Rattle.std.specs.Prelude.{Result}
use Rattle.units.specs.declared.refusal.Refusal.{Refusal}
use Rattle.units.proofs.Determined.{Determined}
use Rattle.segmentation.specs.declared.Edition.{Edition}
use Rattle.segmentation.specs.declared.VolumeSegment.{VolumeSegment}
use Rattle.free_list.specs.declared.FreeList.{FreeList}
use Rattle.free_list.specs.declared.place.Change.{Change}
use Rattle.free_list.specs.Cut.{free_in}
use Rattle.free_list.specs.Granted.{cut_in}
use Rattle.free_list.specs.declared.walk.Walk.{Walk}
use Rattle.units.proofs.blank.unused.Reads as unused-reads
use Rattle.free_list.proofs.end_in.Reads as end-in-reads
use Rattle.free_list.proofs.find_offer.Reads as find-offer-reads
use Rattle.free_list.proofs.place.insert.Kinds as insert-kinds
use Rattle.free_list.proofs.place.insert.Reads as insert-reads
use Rattle.free_list.proofs.place.cut.Kinds as place-cut-kinds
use Rattle.free_list.proofs.place.cut.Reads as place-cut-reads
use Rattle.free_list.proofs.rest.Reads as rest-reads
use Rattle.free_list.proofs.stretch.Reads as stretch-reads
use Rattle.free_list.proofs.Chosen.refused.Reads as refused-reads
use Rattle.free_list.proofs.FreeListDefault.default.Reads as nothing-reads
use Rattle.free_list.proofs.FreeList.listed.Reads as listed-reads
use Rattle.free_list.proofs.FreeList.whole.Reads as whole-reads
use Rattle.free_list.proofs.FreeList.cut.Reads as cut-reads
use Rattle.free_list.proofs.changed.Reads as changed-reads
use Rattle.free_list.proofs.walk.Walk.begin.Reads as begin-reads
use Rattle.free_list.proofs.walk.Walk.piece.Reads as piece-reads
use Rattle.free_list.proofs.walk.Walk.turn.Reads as turn-reads
use Rattle.free_list.proofs.walk.next.Reads as next-reads
use Rattle.free_list.proofs.walk.listed_ok.Reads as listed-ok-reads

-- the test of unused places, at whatever stands there
pub unused-unique : (t : _) (laws : _) (copied : _) (g : _) (d : _) (cloned : _) (e : _) (lf : _) (places : _)
    → Determined (unused-reads.Post t laws copied g d cloned e lf (places, tt))
unused-unique t laws copied g d cloned e lf places r q x y f h = f ∙ sym h

-- an inner function that is lent the rates
module _ (lf : Lfts 1) (rates : Bor (List VolumeSegment)) where
  pub end-in-unique : (edition : Edition) (s : VolumeSegment) (asked : Date) (size : Volume)
      → Determined (end-in-reads.Post lf (edition, (rates, (s, (asked, (size, tt))))))
  end-in-unique edition s asked size r q x y f g = f ∙ sym g

  pub rest-unique : (edition : Edition) (s : VolumeSegment) (end : Date) (size : Volume)
      → Determined (rest-reads.Post lf (edition, (rates, (s, (end, (size, tt))))))
  rest-unique edition s end size r q x y f g = f ∙ sym g

  pub stretch-unique : (start end : Date) → Determined (stretch-reads.Post lf (rates, (start, (end, tt))))
  stretch-unique start end r q x y f g = f ∙ sym g

  pub cut-unique : (self : FreeList) (edition : Edition) (place : ℕ) (send : Interval) (size : Volume)
      → Determined (cut-reads.Post lf (self, (edition, (rates, (place, (send, (size, tt)))))))
  cut-unique self edition place send size r q x y f g = f ∙ sym g

-- and the listed segments
module _ (lf : Lfts 2) (rates free : Bor (List VolumeSegment)) where
  pub find-offer-unique : (edition : Edition) (asked : Date) (size : Volume) → Determined (find-offer-reads.Post lf (edition, (rates, (free, (asked, (size, tt))))))
  find-offer-unique edition asked size r q x y f g = f ∙ sym g

  pub listed-ok-unique : (window : Interval) (room : Volume) → Determined (listed-ok-reads.Post lf (rates, (free, (window, (room, tt)))))
  listed-ok-unique window room r q x y f g = f ∙ sym g

-- what is lent to be changed is left with these segments
pub insert-unique : (lf : Lfts 1) (segments : MutBor (List VolumeSegment)) (n i : ℕ) (s : VolumeSegment) (x y : AtExit (ended_of 1 insert-kinds.ps insert-kinds.r) lf)
    → insert-reads.Post lf (segments, (n, (i, (s, tt)))) tt x → insert-reads.Post lf (segments, (n, (i, (s, tt)))) tt y → x.0.now ≡ y.0.now
insert-unique lf segments n i s x y f g = f ∙ sym g

-- a cut where the list stands: its number, what it took off and put in, the segments and the count that it leaves
pub place-cut-unique : (κs : Lfts 3) (a : Dens κs place-cut-kinds.ps) (r q : Result Change Refusal) (x y : AtExit (ended_of 3 place-cut-kinds.ps place-cut-kinds.r) κs)
    → place-cut-reads.Post κs a r x → place-cut-reads.Post κs a q y → cut_in (free_in x.0.now x.1.0.now) r ≡ cut_in (free_in y.0.now y.1.0.now) q
place-cut-unique κs a r q x y f g = f ∙ sym g

-- what is lent back is told by the segments in it
pub listed-unique : (lf : Lfts 1) (self : Bor FreeList) (r q : Bor (List VolumeSegment)) (x y : _) → listed-reads.Post lf (self, tt) r x → listed-reads.Post lf (self, tt) q y → r.now ≡ q.now
listed-unique lf self r q x y f g = f ∙ sym g

pub refused-unique : (number : ℕ) → Determined (refused-reads.Post tt (number, tt))
refused-unique number r q x y f g = f ∙ sym g

pub nothing-unique : Determined (nothing-reads.Post tt tt)
nothing-unique r q x y f g = f ∙ sym g

pub whole_unique : (window : Interval) (total : Volume) → Determined (whole-reads.Post tt (window, (total, tt)))
whole_unique window total r q x y f g = f ∙ sym g

pub changed-unique : (room off on : Volume) → Determined (changed-reads.Post tt (room, (off, (on, tt))))
changed-unique room off on r q x y f g = ap (λ (n : ℕ). record { 0 = n }) (f ∙ sym g)

pub begin-unique : (s : VolumeSegment) (low : Date) → Determined (begin-reads.Post tt (s, (low, tt)))
begin-unique s low r q x y f g = f ∙ sym g

pub piece-unique : (w : Walk) (a b : Date) → Determined (piece-reads.Post tt (w, (a, (b, tt))))
piece-unique w a b r q x y f g = ap (λ (n : ℕ). record { 0 = n }) (f ∙ sym g)

pub turn-unique : (w : Walk) (s t : VolumeSegment) (to : Date) → Determined (turn-reads.Post tt (w, (s, (t, (to, tt)))))
turn-unique w s t to r q x y f g = f ∙ sym g

pub next-unique : (place m : ℕ) → Determined (next-reads.Post tt (place, (m, tt)))
next-unique place m r q x y f g = f ∙ sym g
