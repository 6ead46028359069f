-- Terms over a window are known by the terms and the window: that they are inside their range has one proof.
use mathlib.Core.HLevel.{is_prop→PathP}
use mathlib.Core.Path.{◌≡◌}
use Prim.Native.Nat.{ℕ}
use Rattle.std.specs.Coded.{le_prop}
use lib.IntN.{ℤ}
use Rattle.units.specs.declared.Interval.{Interval}
use Rattle.poly.specs.declared.terms.Terms.{Terms}
use Rattle.poly.specs.declared.terms.WindowTerms.{WindowTerms}
use Rattle.poly.specs.Granted.{InRange, Ranged}

in-range-prop : (t0 t1 t2 t3 : ℤ) (m : ℕ) → IsProp (InRange t0 t1 t2 t3 m)
in-range-prop t0 t1 t2 t3 m a b i = record {
  r3 = le_prop a.r3 b.r3 i;
  r2 = le_prop a.r2 b.r2 i;
  r1 = le_prop a.r1 b.r1 i;
  r0 = le_prop a.r0 b.r0 i;
  last = le_prop a.last b.last i;
}

ranged-prop : (t : Terms) (w : Interval) → IsProp (Ranged t w)
ranged-prop t w a b i = record {
  date = le_prop a.date b.date i;
  offset = le_prop a.offset b.offset i;
  range = in-range-prop _ _ _ _ _ a.range b.range i;
}

pub same-terms : (r q : WindowTerms) → r.terms ≡ q.terms → r.window ≡ q.window → r ≡ q
same-terms r q e f = λ i. record {
  terms = e i;
  window = f i;
  ranged = is_prop→PathP (λ j. Ranged (e j) (f j)) (λ j. ranged-prop (e j) (f j)) r.ranged q.ranged i;
}
