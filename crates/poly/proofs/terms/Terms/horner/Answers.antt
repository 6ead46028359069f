-- `poly::terms::Terms::horner` meets its contract: no value passes the step on magnitudes, so each is read back as it is.
use borrow.Author.Rules.{rules}
use mathlib.Core.Path.{◌≡◌, sym, ◌∙◌}
use Prim.Native.Nat.{◌≤◌}
use lib.IntN.{ℤ, nat_abs, ◌+ℤ◌, ◌*ℤ◌, zero-*ℤ, +ℤ_idl}
use mir.Syntax.{w64}
use mir.Val.{SFits}
use mir.Facts.{to_z-of_z}
use Rattle.poly.specs.Poly.{step_max, step_of, mag_of, horner_of}
use Rattle.poly.specs.Granted.{InRange}
use Rattle.poly.proofs.Back.{rd}
use Rattle.poly.proofs.Steps.{V3, V2, V1, V0, asks2, asks1, asks0, fits-product, fits-step, horner-fits}
use Rattle.poly.proofs.terms.Terms.horner.Goals as goal

module _ (t0 t1 t2 t3 d : ℤ) (f0 : SFits w64 t0) (f1 : SFits w64 t1) (f2 : SFits w64 t2) (f3 : SFits w64 t3) (fd : SFits w64 d) (asks : InRange t0 t1 t2 t3 (nat_abs d)) where
  -- each value and product as the machine has it
  abbrev p2 : ℤ
  p2 = rd t3 *ℤ rd d

  abbrev v2 : ℤ
  v2 = rd p2 +ℤ rd t2

  abbrev p1 : ℤ
  p1 = rd v2 *ℤ rd d

  abbrev v1 : ℤ
  v1 = rd p1 +ℤ rd t1

  abbrev p0 : ℤ
  p0 = rd v1 *ℤ rd d

  abbrev v0 : ℤ
  v0 = rd p0 +ℤ rd t0

  abbrev last : ℤ
  last = rd v0 *ℤ rd d

  -- a step
  module _ (x v t : ℤ) (ev : rd x ≡ v) (ft : SFits w64 t) (h : mag_of (nat_abs v) (nat_abs d) t ≤ step_max) where
    product : rd x *ℤ rd d ≡ v *ℤ d
    product = rw (ev, to_z-of_z fd)

    multiplies : SFits w64 (rd x *ℤ rd d)
    multiplies = rw product (fits-product v d t h)

    sum : rd (rd x *ℤ rd d) +ℤ rd t ≡ step_of v d t
    unfolding step_of
    sum = rw (to_z-of_z multiplies, to_z-of_z ft, product)

    adds : SFits w64 (rd (rd x *ℤ rd d) +ℤ rd t)
    adds = rw sum (fits-step v d t h)

    sum-back : rd (rd (rd x *ℤ rd d) +ℤ rd t) ≡ step_of v d t
    sum-back = to_z-of_z adds ∙ sum

  -- the first value is the highest term
  first : rd t3 ≡ V3 t3 d
  unfolding step_of
  first = to_z-of_z f3 ∙ sym (rw (zero-*ℤ d) (+ℤ_idl t3))

  h2 : mag_of (nat_abs (V3 t3 d)) (nat_abs d) t2 ≤ step_max
  h2 = asks2 _ _ _ _ d asks

  h1 : mag_of (nat_abs (V2 t2 t3 d)) (nat_abs d) t1 ≤ step_max
  h1 = asks1 _ _ _ _ d asks

  h0 : mag_of (nat_abs (V1 t1 t2 t3 d)) (nat_abs d) t0 ≤ step_max
  h0 = asks0 _ _ _ _ d asks

  p2-fits : SFits w64 p2
  p2-fits = multiplies t3 _ t2 first f2 h2

  v2-fits : SFits w64 v2
  v2-fits = adds t3 _ t2 first f2 h2

  back2 : rd v2 ≡ V2 t2 t3 d
  back2 = sum-back t3 _ t2 first f2 h2

  p1-fits : SFits w64 p1
  p1-fits = multiplies v2 _ t1 back2 f1 h1

  v1-fits : SFits w64 v1
  v1-fits = adds v2 _ t1 back2 f1 h1

  back1 : rd v1 ≡ V1 t1 t2 t3 d
  back1 = sum-back v2 _ t1 back2 f1 h1

  p0-fits : SFits w64 p0
  p0-fits = multiplies v1 _ t0 back1 f0 h0

  v0-fits : SFits w64 v0
  v0-fits = adds v1 _ t0 back1 f0 h0

  back0 : rd v0 ≡ V0 t0 t1 t2 t3 d
  back0 = sum-back v1 _ t0 back1 f0 h0

  last-is : last ≡ horner_of t0 t1 t2 t3 d *ℤ d
  unfolding horner_of
  last-is = rw (back0, to_z-of_z fd)

  last-fits : SFits w64 last
  last-fits = rw last-is (horner-fits _ _ _ _ d asks)

  result-is : rd last ≡ horner_of t0 t1 t2 t3 d *ℤ d
  result-is = to_z-of_z last-fits ∙ last-is

pub overflow_mul-v2 : goal.overflow_mul-v2
overflow_mul-v2 c = p2-fits _ _ _ _ _ (search rules) (search rules) (search rules) (search rules) c.ranges.d c.requires

pub overflow_add-v2 : goal.overflow_add-v2
overflow_add-v2 c = v2-fits _ _ _ _ _ (search rules) (search rules) (search rules) (search rules) c.ranges.d c.requires

pub overflow_mul-v1 : goal.overflow_mul-v1
overflow_mul-v1 c = p1-fits _ _ _ _ _ (search rules) (search rules) (search rules) (search rules) c.ranges.d c.requires

pub overflow_add-v1 : goal.overflow_add-v1
overflow_add-v1 c = v1-fits _ _ _ _ _ (search rules) (search rules) (search rules) (search rules) c.ranges.d c.requires

pub overflow_mul-v0 : goal.overflow_mul-v0
overflow_mul-v0 c = p0-fits _ _ _ _ _ (search rules) (search rules) (search rules) (search rules) c.ranges.d c.requires

pub overflow_add-v0 : goal.overflow_add-v0
overflow_add-v0 c = v0-fits _ _ _ _ _ (search rules) (search rules) (search rules) (search rules) c.ranges.d c.requires

pub overflow_mul-result : goal.overflow_mul-result
overflow_mul-result c = last-fits _ _ _ _ _ (search rules) (search rules) (search rules) (search rules) c.ranges.d c.requires

pub returns : goal.returns
returns c = result-is _ _ _ _ _ (search rules) (search rules) (search rules) (search rules) c.ranges.d c.requires
