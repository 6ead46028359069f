-- Each public call's promise determines its answer. `Post` is the reading of the contract in src/.
use Prim.Native.Nat.{ℕ, ◌<◌, ◌≤◌}
use denote.RattleType.{RattleType}
use mathlib.Core.Bool.{true, false}
use mathlib.Core.Logic.{◌⊎◌, ⊎_elim}
use native.Mathlib.Omega.{arith}
use lib.ListN.{take}
use Rattle.units.specs.Limits.{segments_max}
use Rattle.units.proofs.Logic.{no_both}
use Rattle.contact.specs.declared.span.Span.{Ghosts}
use Rattle.contact.specs.Segments.{covers, delays_ok}
use Rattle.contact.proofs.Told.{lent-once}
use contract.Lifetimes.{Lfts}
use Rattle.std.proofs.Common.{Bor, Option, option_map}
use mathlib.Core.Path.{◌≡◌, sym, ◌∙◌}
use mathlib.Core.List.{List}
use Rattle.units.specs.declared.Date.{Date}
use Rattle.units.specs.declared.Volume.{Volume}
use Rattle.units.specs.declared.Interval.{Interval}
use Rattle.units.proofs.Determined.{Determined}
use Rattle.segmentation.specs.declared.RateSegment.{RateSegment}
use Rattle.segmentation.specs.declared.VolumeSegment.{VolumeSegment}
use Rattle.segmentation.specs.declared.DelaySegment.{DelaySegment}
use Rattle.contact.specs.declared.Choices.{Choices}
use Rattle.contact.specs.declared.Contact.{Contact}
use Rattle.contact.proofs.Choices.ported.Reads as ported-reads
use Rattle.contact.proofs.Choices.ok.Reads as choices-reads
use Rattle.contact.proofs.Contact.open.Reads as open-reads
use Rattle.contact.proofs.Contact.ok.Reads as ok-reads
use Rattle.contact.proofs.Contact.opened.Reads as opened-reads
use Rattle.contact.proofs.Refusals.{opened-once}
use Rattle.contact.proofs.Contact.refused.Reads as refused-reads
use Rattle.contact.proofs.Contact.answer.Reads as answer-reads
use Rattle.contact.proofs.Contact.rates.Reads as rates-reads
use Rattle.contact.proofs.Contact.delays.Reads as delays-reads
use Rattle.contact.proofs.span.covers.Reads as covers-reads
use Rattle.contact.proofs.span.used.Reads as used-reads
use Rattle.contact.proofs.span.covering.Reads as covering-reads
use Rattle.contact.proofs.opening.total_of.Reads as total-of-reads
use Rattle.contact.proofs.opening.volumes_of.Reads as volumes-of-reads
use Rattle.contact.proofs.opening.volume_of.Reads as volume-of-reads
use Rattle.contact.proofs.opening.delays_of.Reads as delays-of-reads
use Rattle.contact.proofs.test.short.Reads as short-reads
use Rattle.contact.proofs.test.delays_are.Reads as delays-are-reads
use Rattle.contact.proofs.test.delays_kept.Reads as delays-kept-reads
use Rattle.contact.proofs.test.takes.Reads as takes-reads
use Rattle.contact.proofs.test.volumes_ok.Reads as volumes-ok-reads
use Rattle.contact.proofs.test.rates_kept.Reads as rates-kept-reads

pub open-unique : (choices : Choices) (window : Interval) (rates : List RateSegment) (m : ℕ) (delays : List DelaySegment) (k : ℕ) → Determined (open-reads.Post tt (choices, (window, (rates, (m, (delays, (k, tt)))))))
open-unique choices window rates m delays k r q x y f g = f ∙ sym g

module _ (lf : Lfts 2) (choices : Choices) (window : Interval) (rates : Bor (List RateSegment)) (m : ℕ) (delays : Bor (List DelaySegment)) (k : ℕ) where
  pub opened-unique : Determined (opened-reads.Post lf (choices, (window, (rates, (m, (delays, (k, tt)))))))
  opened-unique r q x y f g = opened-once r q (f ∙ sym g)

pub ported-unique : Determined (ported-reads.Post tt tt)
ported-unique r q x y f g = f ∙ sym g

pub choices-unique : (h : Choices) → Determined (choices-reads.Post tt (h, tt))
choices-unique h r q x y f g = f ∙ sym g

pub ok-unique : (c : Contact) → Determined (ok-reads.Post tt (c, tt))
ok-unique c r q x y f g = f ∙ sym g

pub refused-unique : (number : ℕ) → Determined (refused-reads.Post tt (number, tt))
refused-unique number r q x y f g = f ∙ sym g

module _ (lf : Lfts 1) (c : Bor Contact) where
  pub answer-unique : (send : Interval) → Determined (answer-reads.Post lf (c, (send, tt)))
  answer-unique send r q x y f g = f ∙ sym g

  -- what is lent back is told by the segments in it
  pub rates-unique : (r q : Bor (List VolumeSegment)) (x y : _) → rates-reads.Post lf (c, tt) r x → rates-reads.Post lf (c, tt) q y → r.now ≡ q.now
  rates-unique r q x y f g = f ∙ sym g

  pub delays-unique : (r q : Bor (List DelaySegment)) (x y : _) → delays-reads.Post lf (c, tt) r x → delays-reads.Post lf (c, tt) q y → r.now ≡ q.now
  delays-unique r q x y f g = f ∙ sym g

-- of any segments
module _ (t : RattleType) (laws : _) (copy : _) (span : Ghosts t.Denot) (d : _) (clone : _) (e : _) (lf : _) (list : Bor (List t.Denot)) (w : Interval) where
  pub covers-unique : Determined (covers-reads.Post t laws copy span d clone e lf (list, (w, tt)))
  covers-unique r q x y f g = f ∙ sym g

  pub covering-unique : (n : ℕ) (r q : Option (Bor (List t.Denot))) (x y : _) → covering-reads.Post t laws copy span d clone e lf (list, (n, (w, tt))) r x
      → covering-reads.Post t laws copy span d clone e lf (list, (n, (w, tt))) q y
      → option_map (λ l. l.now) r ≡ option_map (λ l. l.now) q
  covering-unique n r q x y f g =
      lent-once (covers span.span w n list.now ≡ false) (λ l. (covers span.span w n list.now ≡ true) × (l.now ≡ take n list.now)) (λ l a b. no_both b.0 a) (λ l k a b. a.1 ∙ sym b.1) r q f g

module _ (t : RattleType) (laws : _) (lf : _) (list : Bor (List t.Denot)) (n : ℕ) where
  pub used-unique : (r q : Option (Bor (List t.Denot))) (x y : _) → used-reads.Post t laws lf (list, (n, tt)) r x → used-reads.Post t laws lf (list, (n, tt)) q y
      → option_map (λ l. l.now) r ≡ option_map (λ l. l.now) q
  used-unique r q x y f g =
      lent-once ((n < 1) ⊎ (segments_max < n)) (λ l. (1 ≤ n) × (n ≤ segments_max) × (l.now ≡ take n list.now))
      (λ l a b. ⊎_elim (λ (few : n < 1). omega (arith, b.0)) (λ (many : segments_max < n). omega (arith, b.1)) a) (λ l k a b. a.2 ∙ sym b.2) r q f g

pub volume-of-unique : (s : RateSegment) → Determined (volume-of-reads.Post tt (s, tt))
volume-of-unique s r q x y f g = f ∙ sym g

module _ (lf : Lfts 1) (rates : Bor (List RateSegment)) where
  pub total-of-unique : Determined (total-of-reads.Post lf (rates, tt))
  total-of-unique r q x y f g = f ∙ sym g

  pub volumes-of-unique : Determined (volumes-of-reads.Post lf (rates, tt))
  volumes-of-unique r q x y f g = f ∙ sym g

module _ (lf : Lfts 1) (delays : Bor (List DelaySegment)) where
  pub delays-of-unique : Determined (delays-of-reads.Post lf (delays, tt))
  delays-of-unique r q x y f g = f ∙ sym g

  pub short-unique : Determined (short-reads.Post lf (delays, tt))
  short-unique r q x y f g = f ∙ sym g

  module _ (n : ℕ) (w : Interval) where
    pub delays-are-unique : (r q : Option (Bor (List DelaySegment))) (x y : _) → delays-are-reads.Post lf (delays, (n, (w, tt))) r x → delays-are-reads.Post lf (delays, (n, (w, tt))) q y
        → option_map (λ l. l.now) r ≡ option_map (λ l. l.now) q
    delays-are-unique r q x y f g =
        lent-once (delays_ok w n delays.now ≡ false) (λ l. (delays_ok w n delays.now ≡ true) × (l.now ≡ take n delays.now)) (λ l a b. no_both b.0 a) (λ l k a b. a.1 ∙ sym b.1) r q f g

    pub delays-kept-unique : Determined (delays-kept-reads.Post lf (delays, (n, (w, tt))))
    delays-kept-unique r q x y f g = f ∙ sym g

module _ (lf : Lfts 1) (rates : Bor (List VolumeSegment)) (w : Interval) where
  pub volumes-ok-unique : Determined (volumes-ok-reads.Post lf (rates, (w, tt)))
  volumes-ok-unique r q x y f g = f ∙ sym g

  pub rates-kept-unique : (n : ℕ) → Determined (rates-kept-reads.Post lf (rates, (n, (w, tt))))
  rates-kept-unique n r q x y f g = f ∙ sym g

pub takes-unique : (s : VolumeSegment) (at : Date) (room : Volume) → Determined (takes-reads.Post tt (s, (at, (room, tt))))
takes-unique s at room r q x y f g = f ∙ sym g
