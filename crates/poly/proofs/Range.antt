-- The range rule as a test and as facts; a polynomial that passes its test is inside its range over the window.
use Prim.Native.Nat.{ℕ, ◌≤◌}
use mathlib.Core.Bool.{true, false}
use mathlib.Core.Path.{◌≡◌, refl, sym}
use native.Mathlib.Omega.{arith}
use borrow.Author.Tests.{leb-true, le-leb}
use lib.IntN.{ℤ}
use Rattle.units.specs.declared.Interval.{Interval}
use Rattle.units.specs.Limits.{window_ok}
use Rattle.units.proofs.Logic.{both-fst, both-snd, both_yes, same_test, no_both}
use Rattle.units.proofs.Windows.{window}
use Rattle.poly.specs.declared.Polynome.{Polynome}
use Rattle.poly.specs.Poly.{range_ok, far_of, poly_ok}
use Rattle.poly.specs.Granted.{terms_of, InRange, farthest, Ranged}
use Rattle.poly.proofs.Steps.{range_mono}

module _ (t0 t1 t2 t3 : ℤ) (m : ℕ) where
  pub in-range : range_ok t0 t1 t2 t3 m ≡ true → InRange t0 t1 t2 t3 m
  unfolding range_ok
  in-range e =
      let e2 = both-snd _ _ e in
      let e1 = both-snd _ _ e2 in
      let e0 = both-snd _ _ e1 in
      record {
        r3 = leb-true _ _ (both-fst _ _ e);
        r2 = leb-true _ _ (both-fst _ _ e2);
        r1 = leb-true _ _ (both-fst _ _ e1);
        r0 = leb-true _ _ (both-fst _ _ e0);
        last = leb-true _ _ (both-snd _ _ e0);
      }

  pub range-ok : InRange t0 t1 t2 t3 m → range_ok t0 t1 t2 t3 m ≡ true
  unfolding range_ok
  range-ok h =
      both_yes _ _ (le-leb _ _ h.r3)
      (both_yes _ _ (le-leb _ _ h.r2)
      (both_yes _ _ (le-leb _ _ h.r1) (both_yes _ _ (le-leb _ _ h.r0) (le-leb _ _ h.last))))

  -- a step that passes the limit fails the test
  pub out-of-range : (InRange t0 t1 t2 t3 m → ⊥) → false ≡ range_ok t0 t1 t2 t3 m
  out-of-range h = sym (same_test _ false (λ e. absurd (h (in-range e))) (λ e. absurd (no_both e refl)))

-- what `Polynome::ok` tells of a window
pub ranged : (mode : ℕ) (p : Polynome) (w : Interval) → window_ok w ≡ true → poly_ok mode p w ≡ true → Ranged (terms_of mode p) w
unfolding poly_ok
ranged mode p w k e =
    let near : farthest (terms_of mode p) w ≤ far_of p w = omega arith in
    record {
      date = (window w k).date;
      offset = leb-true _ _ (both-fst _ _ e);
      range = range_mono _ _ _ _ near (in-range _ _ _ _ _ (both-snd _ _ (both-snd _ _ e)));
    }
