-- `poly::Polynome::steps` meets its contract: the first magnitude or step that passes the limit fails the range rule.
use borrow.Author.Rules.{rules}
use mathlib.Core.Bool.{false}
use mathlib.Core.Path.{◌≡◌, ◌∙◌, ap}
use Prim.Native.Nat.{ℕ, ◌+◌, ◌*◌}
use native.Mathlib.Omega.{arith}
use borrow.Author.Tests.{leb-true, le-leb}
use lib.Dec.{leb}
use lib.IntN.{ℤ, nat_abs}
use Rattle.std.specs.Prelude.{Option, Some, None, is_some}
use Rattle.units.proofs.Logic.{same_test}
use Rattle.poly.specs.Poly.{step_max, coefficient, mag_of, range_ok}
use Rattle.poly.specs.Granted.{in_limit, InRange}
use Rattle.poly.proofs.Limit.{limit-some, limit-none, limit-test, read-term}
use Rattle.poly.proofs.Range.{in-range, range-ok, out-of-range}
use Rattle.poly.proofs.Steps.{M3, M2, M1, M0, small0, small1, small2, small3}
use Rattle.poly.proofs.Polynome.steps.Goals as goal
use Rattle.poly.proofs.Polynome.steps.Goals.{After-step-4}

module _ (t0 t1 t2 t3 : ℤ) (m : ℕ) where
  abbrev Fails : Type 0
  Fails = false ≡ range_ok t0 t1 t2 t3 m

  -- a term's magnitude passes the limit
  large3 : ◌≡◌ {A = Option ℕ} None (in_limit (nat_abs t3)) → Fails
  large3 e = out-of-range _ _ _ _ _ (λ h. omega (arith, limit-none _ e, small3 _ _ _ _ _ h))

  large2 : ◌≡◌ {A = Option ℕ} None (in_limit (nat_abs t2)) → Fails
  large2 e = out-of-range _ _ _ _ _ (λ h. omega (arith, limit-none _ e, small2 _ _ _ _ _ h))

  large1 : ◌≡◌ {A = Option ℕ} None (in_limit (nat_abs t1)) → Fails
  large1 e = out-of-range _ _ _ _ _ (λ h. omega (arith, limit-none _ e, small1 _ _ _ _ _ h))

  large0 : ◌≡◌ {A = Option ℕ} None (in_limit (nat_abs t0)) → Fails
  large0 e = out-of-range _ _ _ _ _ (λ h. omega (arith, limit-none _ e, small0 _ _ _ _ _ h))

  module _ (v3 q2 q1 q0 : ℕ) (e3 : Some v3 ≡ in_limit (nat_abs t3)) (f2 : Some q2 ≡ in_limit (nat_abs t2))
      (f1 : Some q1 ≡ in_limit (nat_abs t1)) (f0 : Some q0 ≡ in_limit (nat_abs t0))
    where
      is3 : v3 ≡ M3 t3 m
      unfolding mag_of
      is3 = omega (arith, limit-some _ _ e3)

      -- what is tested at each step
      at2 : v3 * m + q2 ≡ M2 t2 t3 m
      unfolding mag_of
      at2 = rw (is3, (limit-some _ _ f2).0)

      over2 : ◌≡◌ {A = Option ℕ} None (in_limit (v3 * m + q2)) → Fails
      over2 e = out-of-range _ _ _ _ _ (λ h. omega (arith, limit-none _ e, at2, h.r2))

      module _ (v2 : ℕ) (e2 : Some v2 ≡ in_limit (v3 * m + q2)) where
        at1 : v2 * m + q1 ≡ M1 t1 t2 t3 m
        unfolding mag_of
        at1 = rw ((limit-some _ _ e2).0, at2, (limit-some _ _ f1).0)

        over1 : ◌≡◌ {A = Option ℕ} None (in_limit (v2 * m + q1)) → Fails
        over1 e = out-of-range _ _ _ _ _ (λ h. omega (arith, limit-none _ e, at1, h.r1))

        module _ (v1 : ℕ) (e1 : Some v1 ≡ in_limit (v2 * m + q1)) where
          at0 : v1 * m + q0 ≡ M0 t0 t1 t2 t3 m
          unfolding mag_of
          at0 = rw ((limit-some _ _ e1).0, at1, (limit-some _ _ f0).0)

          over0 : ◌≡◌ {A = Option ℕ} None (in_limit (v1 * m + q0)) → Fails
          over0 e = out-of-range _ _ _ _ _ (λ h. omega (arith, limit-none _ e, at0, h.r0))

          module _ (v0 : ℕ) (e0 : Some v0 ≡ in_limit (v1 * m + q0)) where
            last : v0 * m + 0 ≡ M0 t0 t1 t2 t3 m * m
            last = rw ((limit-some _ _ e0).0, at0) (omega arith)

            all : InRange t0 t1 t2 t3 m → leb (v0 * m + 0) step_max ≡ leb (M0 t0 t1 t2 t3 m * m) step_max
            all h = rw last

            tested : (r : Option ℕ) → r ≡ in_limit (v0 * m + 0) → is_some r ≡ range_ok t0 t1 t2 t3 m
            tested r e =
                ap is_some e ∙ limit-test _
                ∙ same_test _ _
                (λ t. range-ok _ _ _ _ _ (record {
                  r3 = omega (arith, is3, limit-some _ _ e3);
                  r2 = omega (arith, at2, limit-some _ _ e2);
                  r1 = omega (arith, at1, limit-some _ _ e1);
                  r0 = omega (arith, at0, limit-some _ _ e0);
                  last = omega (arith, last, leb-true _ _ t);
                }))
                (λ t. le-leb _ _ (omega (arith, last, (in-range _ _ _ _ _ t).last)))

pub returns-in_err-v3 : goal.returns-in_err-v3
returns-in_err-v3 c =
    ap is_some c.from_residual.ensures ∙ large3 _ _ _ _ _ (read-term _ (coefficient c.args.self.coefficients 3) (search rules) 4 c.in_err-v3.ensures)

pub returns-in_err-q2 : goal.returns-in_err-q2
returns-in_err-q2 c =
    ap is_some c.from_residual-in_err-q2.ensures ∙ large2 _ _ _ _ _ (read-term _ (coefficient c.args.self.coefficients 2) (search rules) 3 c.in_err-q2.ensures)

pub returns-in_err-q1 : goal.returns-in_err-q1
returns-in_err-q1 c =
    ap is_some c.from_residual-in_err-q1.ensures ∙ large1 _ _ _ _ _ (read-term _ (coefficient c.args.self.coefficients 1) (search rules) 2 c.in_err-q1.ensures)

pub returns-in_err-q0 : goal.returns-in_err-q0
returns-in_err-q0 c =
    ap is_some c.from_residual-in_err-q0.ensures ∙ large0 _ _ _ _ _ (read-term _ (coefficient c.args.self.coefficients 0) (search rules) 1 c.in_err-q0.ensures)

pub returns-in_err-v2 : goal.returns-in_err-v2
returns-in_err-v2 c =
    ap is_some c.from_residual-in_err-v2.ensures
    ∙ over2 _ _ _ _ _ _ _ _ _
    (read-term _ (coefficient c.args.self.coefficients 3) (search rules) 4 c.in_ok-v3.ensures)
    (read-term _ (coefficient c.args.self.coefficients 2) (search rules) 3 c.in_ok-q2.ensures)
    (read-term _ (coefficient c.args.self.coefficients 1) (search rules) 2 c.in_ok-q1.ensures)
    (read-term _ (coefficient c.args.self.coefficients 0) (search rules) 1 c.in_ok-q0.ensures)
    c.in_err-v2.ensures

pub returns-in_err-v1 : goal.returns-in_err-v1
returns-in_err-v1 c =
    ap is_some c.from_residual-in_err-v1.ensures
    ∙ over1 _ _ _ _ _ _ _ _ _
    (read-term _ (coefficient c.args.self.coefficients 3) (search rules) 4 c.in_ok-v3.ensures)
    (read-term _ (coefficient c.args.self.coefficients 2) (search rules) 3 c.in_ok-q2.ensures)
    (read-term _ (coefficient c.args.self.coefficients 1) (search rules) 2 c.in_ok-q1.ensures)
    (read-term _ (coefficient c.args.self.coefficients 0) (search rules) 1 c.in_ok-q0.ensures)
    _ c.in_ok-v2.ensures c.in_err-v1.ensures

pub returns-in_err-v0 : goal.returns-in_err-v0
returns-in_err-v0 c =
    ap is_some c.from_residual-in_err-v0.ensures
    ∙ over0 _ _ _ _ _ _ _ _ _
    (read-term _ (coefficient c.args.self.coefficients 3) (search rules) 4 c.in_ok-v3.ensures)
    (read-term _ (coefficient c.args.self.coefficients 2) (search rules) 3 c.in_ok-q2.ensures)
    (read-term _ (coefficient c.args.self.coefficients 1) (search rules) 2 c.in_ok-q1.ensures)
    (read-term _ (coefficient c.args.self.coefficients 0) (search rules) 1 c.in_ok-q0.ensures)
    _ c.in_ok-v2.ensures _ c.in_ok-v1.ensures c.in_err-v0.ensures

pub returns : goal.returns
returns c =
    tested _ _ _ _ _ _ _ _ _
    (read-term _ (coefficient c.args.self.coefficients 3) (search rules) 4 c.in_ok-v3.ensures)
    (read-term _ (coefficient c.args.self.coefficients 2) (search rules) 3 c.in_ok-q2.ensures)
    (read-term _ (coefficient c.args.self.coefficients 1) (search rules) 2 c.in_ok-q1.ensures)
    (read-term _ (coefficient c.args.self.coefficients 0) (search rules) 1 c.in_ok-q0.ensures)
    _ c.in_ok-v2.ensures _ c.in_ok-v1.ensures _ c.in_ok-v0.ensures _ c.step-4.ensures
