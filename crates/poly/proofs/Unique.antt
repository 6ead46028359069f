-- Each public call's promise determines its answer: two answers that meet it are equal. `Post` is the reading of the contract in src/.
use Prim.Native.Nat.{ℕ}
use mathlib.Core.Path.{sym, ◌∙◌}
use Rattle.units.specs.declared.Date.{Date}
use Rattle.units.specs.declared.Interval.{Interval}
use Rattle.units.specs.declared.Volume.{Volume}
use Rattle.units.proofs.Determined.{Determined}
use Rattle.poly.specs.declared.Mode.{Mode}
use Rattle.poly.specs.declared.Polynome.{Polynome}
use Rattle.poly.specs.declared.terms.WindowTerms.{WindowTerms}
use Rattle.poly.proofs.Same.{same-terms}
use Rattle.poly.proofs.Polynome.ok.Reads as ok-reads
use Rattle.poly.proofs.Polynome.terms.Reads as terms-reads
use Rattle.poly.proofs.Mode.wanted.Reads as wanted-reads
use Rattle.poly.proofs.terms.WindowTerms.capacity.Reads as capacity-reads
use Rattle.poly.proofs.terms.WindowTerms.find_end.Reads as find-end-reads

module _ (p : Polynome) (mode : Mode) (w : Interval) where
  pub ok-unique : Determined (ok-reads.Post tt (p, (mode, (w, tt))))
  ok-unique r q x y f g = f ∙ sym g

  pub terms-unique : Determined (terms-reads.Post tt (p, (mode, (w, tt))))
  terms-unique r q x y f g = same-terms r q (f.0 ∙ sym g.0) (f.1 ∙ sym g.1)

pub wanted-unique : (mode : Mode) (size : Volume) → Determined (wanted-reads.Post tt (mode, (size, tt)))
wanted-unique mode size r q x y f g = f ∙ sym g

module _ (t : WindowTerms) where
  pub capacity-unique : (at : Date) → Determined (capacity-reads.Post tt (t, (at, tt)))
  capacity-unique at r q x y f g = f.0 ∙ sym g.0

  pub find-end-unique : (segment : Interval) (at : Date) (size : ℕ) → Determined (find-end-reads.Post tt (t, (segment, (at, (size, tt)))))
  find-end-unique segment at size r q x y f g = f ∙ sym g
