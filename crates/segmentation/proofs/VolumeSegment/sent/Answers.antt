-- `segmentation::VolumeSegment::sent` meets its contract: the quotient by the rate, which is above 0 where something is carried; what a part of a
-- tick counts is taken off before it and put on after it.
use borrow.Author.Tests.{eq-eqb, ne_eqb}
use Prim.Native.Nat.{ℕ, ◌+◌, ◌-◌, ◌/◌, ◌≤◌}
use mathlib.Core.Path.{◌≡◌}
use mathlib.Core.Logic.{⊎_elim}
use native.Mathlib.Omega.{arith}
use lib.Dec.{eqb}
use Rattle.units.specs.Logic.{pick}
use Rattle.units.proofs.Numbers.{eq-or-ne}
use Rattle.segmentation.specs.Capacity.{rate_of}
use Rattle.segmentation.specs.Granted.{ticks_of}
use Rattle.segmentation.proofs.Segment.{rate-some, time-low}
use Rattle.segmentation.proofs.VolumeSegment.sent.Goals as goal
use Rattle.segmentation.proofs.VolumeSegment.sent.Goals.{After-part-part, After-rate-rate}

-- what a part of a tick counts in edition k
module _ (k p : ℕ) (e : p ≡ pick (eqb k 2) 1 0) where
  part_low : p ≤ 1
  part_low = ⊎_elim (λ (two : k ≡ 2). rw (e, eq-eqb k 2 two) (omega arith)) (λ (one : k ≡ 2 → ⊥). rw (e, ne_eqb k 2 one) (omega arith)) (eq-or-ne k 2)

  ticks-is : (v r : ℕ) → (v - p) / r + p ≡ ticks_of k v r
  ticks-is v r =
      ⊎_elim
      (λ (two : k ≡ 2). rw (e, eq-eqb k 2 two) (omega arith))
      (λ (one : k ≡ 2 → ⊥).
      let none : p ≡ 0 = rw (ne_eqb k 2 one) at e in
      let all : v - p ≡ v = omega arith in
      rw (all, ne_eqb k 2 one) (omega (arith, none)))
      (eq-or-ne k 2)

-- no more than the rest takes no more ticks than the segment has
short : (c : After-rate-rate) (v : ℕ) → v ≤ c.args.rest.0
    → v / c.rate-rate.result.0 ≤ c.args.self.end.0 - c.args.self.start.0
short c v h =
    rw c.rate-rate.ensures (time-low c.args.self c.requires.whole v (omega (arith, c.requires.carried.1.1)))

counts : (c : After-part-part) → c.part-part.result ≤ 1
counts c = part_low c.args.edition.0 _ c.part-part.ensures

pub overflow_sub-result : goal.overflow_sub-result
overflow_sub-result c = omega (arith, counts (goal.at.overflow_sub-result c).After-part-part, c.requires.carried.1.0)

pub nonzero_div-result : goal.nonzero_div-result
nonzero_div-result c =
    omega (arith, c.rate-rate.ensures, rate-some c.args.self c.requires.whole c.args.rest.0 c.requires.carried.1.0 c.requires.carried.1.1)

pub overflow_add-result : goal.overflow_add-result
overflow_add-result c =
    record { fits = omega (arith, counts (goal.at.overflow_add-result c).After-part-part, short (goal.at.overflow_add-result c).After-rate-rate (c.args.rest.0 - c.part-part.result) (omega arith)) }

pub overflow_add-result-2 : goal.overflow_add-result-2
overflow_add-result-2 c =
    record { fits = omega (arith, counts (goal.at.overflow_add-result-2 c).After-part-part, short (goal.at.overflow_add-result-2 c).After-rate-rate (c.args.rest.0 - c.part-part.result) (omega arith), c.requires.carried.0) }

pub returns : goal.returns
returns c =
    rw c.rate-rate.ensures (omega (arith, ticks-is c.args.edition.0 c.part-part.result c.part-part.ensures c.args.rest.0 (rate_of c.args.self)))
