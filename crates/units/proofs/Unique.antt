-- Each public call's promise determines its answer. `Post` is the reading of the contract in src/.
use Prim.Native.Nat.{ℕ}
use mathlib.Core.Path.{◌≡◌, sym, ap, ◌∙◌}
use Rattle.units.specs.declared.Date.{Date}
use Rattle.units.specs.declared.Delay.{Delay}
use Rattle.units.specs.declared.Volume.{Volume}
use Rattle.units.specs.declared.Interval.{Interval}
use Rattle.units.specs.declared.Strict.{Strict}
use Rattle.units.specs.declared.TxData.{TxData}
use Rattle.units.specs.declared.Bundle.{Bundle}
use Rattle.units.specs.declared.Offer.{Offer}
use Rattle.units.proofs.Determined.{Determined}
use Rattle.units.proofs.Refusals.{told-once}
use Rattle.units.specs.declared.refusal.Refusal.{Refusal}
use Rattle.units.proofs.refusal.Refusal.number.Reads as number-reads
use Rattle.units.proofs.blank.unused.Reads as unused-reads
use Rattle.units.proofs.Date.after.Reads as after-reads
use Rattle.units.proofs.Interval.is_window.Reads as is-window-reads
use Rattle.units.proofs.Strict.ok.Reads as strict-ok-reads
use Rattle.units.proofs.Strict.forbids.Reads as forbids-reads
use Rattle.units.proofs.Bundle.ok_at.Reads as ok-at-reads
use Rattle.units.proofs.Bundle.ok.Reads as ok-reads
use Rattle.units.proofs.Offer.is.Reads as is-reads
use Rattle.units.proofs.Offer.check.Reads as check-reads
use Rattle.units.proofs.Offer.refused.Reads as refused-reads
use Rattle.units.proofs.one_or_two.Reads as one-or-two-reads
use Rattle.units.proofs.later.Reads as later-reads
use Rattle.units.proofs.sooner.Reads as sooner-reads

-- a date or a volume is its number
pub date-is : (r q : Date) (n : ℕ) → r.0 ≡ n → q.0 ≡ n → r ≡ q
date-is r q n h k = ap (λ (x : ℕ). record { 0 = x }) (h ∙ sym k)

pub volume-is : (r q : Volume) (n : ℕ) → r.0 ≡ n → q.0 ≡ n → r ≡ q
volume-is r q n h k = ap (λ (x : ℕ). record { 0 = x }) (h ∙ sym k)

module _ (a : Date) where
  pub after-unique : (d : Delay) → Determined (after-reads.Post tt (a, (d, tt)))
  after-unique d r q x y f g = date-is r q _ f g

  pub later-unique : (b : Date) → Determined (later-reads.Post tt (a, (b, tt)))
  later-unique b r q x y f g = date-is r q _ f g

  pub sooner-unique : (b : Date) → Determined (sooner-reads.Post tt (a, (b, tt)))
  sooner-unique b r q x y f g = date-is r q _ f g

pub one-or-two-unique : (n : ℕ) → Determined (one-or-two-reads.Post tt (n, tt))
one-or-two-unique n r q x y f g = f ∙ sym g

module _ (strict : Strict) where
  pub strict-ok-unique : Determined (strict-ok-reads.Post tt (strict, tt))
  strict-ok-unique r q x y f g = f ∙ sym g

  pub forbids-unique : (send : Interval) → Determined (forbids-reads.Post tt (strict, (send, tt)))
  forbids-unique send r q x y f g = f ∙ sym g

pub is-window-unique : (w : Interval) → Determined (is-window-reads.Post tt (w, tt))
is-window-unique w r q x y f g = f ∙ sym g

module _ (b : Bundle) where
  pub ok-at-unique : (at : Date) → Determined (ok-at-reads.Post tt (b, (at, tt)))
  ok-at-unique at r q x y f g = f ∙ sym g

  pub ok-unique : Determined (ok-reads.Post tt (b, tt))
  ok-unique r q x y f g = f ∙ sym g

module _ (d : TxData) where
  pub is-unique : (o : Offer) → Determined (is-reads.Post tt (o, (d, tt)))
  is-unique o r q x y f g = f ∙ sym g

  pub check-unique : (strict : Strict) (o : Offer) → Determined (check-reads.Post tt (o, (strict, (d, tt))))
  check-unique strict o r q x y f g = told-once r q (f ∙ sym g)

pub refused-unique : (number : ℕ) → Determined (refused-reads.Post tt (number, tt))
refused-unique number r q x y f g = f ∙ sym g

pub number-unique : (r : Refusal) → Determined (number-reads.Post tt (r, tt))
number-unique refusal r q x y f g = f ∙ sym g

-- the test of unused places, at whatever stands there
pub unused-unique : (t : _) (laws : _) (copied : _) (g : _) (d : _) (cloned : _) (e : _) (lf : _) (places : _)
    → Determined (unused-reads.Post t laws copied g d cloned e lf (places, tt))
unused-unique t laws copied g d cloned e lf places r q x y f h = f ∙ sym h
