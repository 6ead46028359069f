-- Each public call's promise determines its answer: two answers that meet it are equal. `Post` is the reading of the contract in src/.
use Prim.Native.Nat.{ℕ}
use mathlib.Core.Path.{◌≡◌, sym, ◌∙◌}
use mathlib.Core.List.{List}
use Rattle.std.proofs.Common.{Bor, Option}
use contract.Lifetimes.{Lfts}
use Rattle.units.specs.declared.Date.{Date}
use Rattle.units.specs.declared.Volume.{Volume}
use Rattle.units.specs.declared.Interval.{Interval}
use Rattle.units.proofs.Determined.{Determined}
use Rattle.units.proofs.Unique.{date-is, volume-is}
use Rattle.segmentation.specs.declared.Edition.{Edition}
use Rattle.segmentation.specs.declared.Rule.{Rule}
use Rattle.segmentation.specs.declared.VolumeSegment.{VolumeSegment}
use Rattle.segmentation.specs.declared.DelaySegment.{DelaySegment}
use Rattle.segmentation.specs.declared.Delays.{Delays}
use Rattle.segmentation.proofs.VolumeSegment.carried.Reads as carried-reads
use Rattle.segmentation.proofs.VolumeSegment.sent.Reads as sent-reads
use Rattle.segmentation.proofs.VolumeSegment.part.Reads as part-reads
use Rattle.segmentation.proofs.by_deadline.Reads as by-deadline-reads
use Rattle.segmentation.proofs.find_end.Reads as find-end-reads
use Rattle.segmentation.proofs.volume_between.Reads as volume-between-reads
use Rattle.segmentation.proofs.Rule.belongs.Reads as belongs-reads
use Rattle.segmentation.proofs.Rule.onward.Reads as onward-reads
use Rattle.segmentation.proofs.from_date.Reads as from-date-reads
use Rattle.segmentation.proofs.find_delays.Reads as find-delays-reads
use Rattle.segmentation.proofs.answer.Reads as answer-reads

module _ (self : VolumeSegment) (from : Date) where
  pub carried-unique : Determined (carried-reads.Post tt (self, (from, tt)))
  carried-unique r q x y f g = volume-is r q _ f g

  pub sent-unique : (edition : Edition) (rest : Volume) → Determined (sent-reads.Post tt (self, (edition, (from, (rest, tt)))))
  sent-unique edition rest r q x y f g = date-is r q _ f g

  pub part-unique : (end : Date) → Determined (part-reads.Post tt (self, (from, (end, tt))))
  part-unique end r q x y f g = volume-is r q _ f.0 g.0

pub by-deadline-unique : (end deadline : Date) → Determined (by-deadline-reads.Post tt (end, (deadline, tt)))
by-deadline-unique end deadline r q x y f g = f ∙ sym g

module _ (lf : Lfts 1) (rates : Bor (List VolumeSegment)) (start : Date) where
  pub find-end-unique : (edition : Edition) (size : Volume) (deadline : Date) → Determined (find-end-reads.Post lf (edition, (rates, (start, (size, (deadline, tt))))))
  find-end-unique edition size deadline r q x y f g = f ∙ sym g

  pub volume-between-unique : (end : Date) → Determined (volume-between-reads.Post lf (rates, (start, (end, tt))))
  volume-between-unique end r q x y f g = volume-is r q _ f g

pub belongs-unique : (rule : Rule) (date : Date) (s : DelaySegment) (after : ℕ) → Determined (belongs-reads.Post tt (rule, (date, (s, (after, tt)))))
belongs-unique rule date s after r q x y f g = f ∙ sym g

-- what is lent back is told by the segments in it
module _ (lf : Lfts 1) (rule : Rule) (delays : Bor (List DelaySegment)) where
  pub onward-unique : (found r q : Bor (List DelaySegment)) (x y : _) → onward-reads.Post lf (rule, (delays, (found, tt))) r x → onward-reads.Post lf (rule, (delays, (found, tt))) q y → r.now ≡ q.now
  onward-unique found r q x y f g = f ∙ sym g

  pub from-date-unique : (date : Date) (r q : Bor (List DelaySegment)) (x y : _) → from-date-reads.Post lf (rule, (delays, (date, tt))) r x → from-date-reads.Post lf (rule, (delays, (date, tt))) q y → r.now ≡ q.now
  from-date-unique date r q x y f g = f ∙ sym g

  pub find-delays-unique : (send : Interval) → Determined (find-delays-reads.Post lf (rule, (delays, (send, tt))))
  find-delays-unique send r q x y f g = f ∙ sym g

pub answer-unique : (send : Interval) (delays : Option Delays) → Determined (answer-reads.Post tt (send, (delays, tt)))
answer-unique send delays r q x y f g = f ∙ sym g
