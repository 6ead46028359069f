-- `contact::opening::total_of` meets its contract: from the sum reached on, the segments left have the answer of all.
use Rattle.std.proofs.Common.{◌<◌, ◌-◌, sym, ◌∙◌, arith}
use Rattle.units.proofs.Numbers.{product-within, product-beyond}
use Rattle.units.proofs.Loop.{at-whole, left-first, left_end, left_here, left_step}
use Rattle.segmentation.specs.declared.RateSegment.{RateSegment}
use Rattle.contact.specs.Granted.{Spanning}
use Rattle.contact.proofs.Rates.{zero_rate, forward-here, total_first, total-end, total-fast, total-over, holds, total-go}
use Rattle.contact.proofs.opening.total_of.Goals as goal

long : (s : RateSegment) → Spanning s → 0 < s.end.0 - s.start.0
long s h = omega (arith, h.forth)

pub loop-s-init : goal.loop-s-init
loop-s-init c = rw c.default-sum.ensures (left-first _ _ _ _, omega arith, c.requires.forward)

pub overflow_sub-s : goal.overflow_sub-s
overflow_sub-s c = omega (arith, (forward-here c.args.rates.now c.loop-s.s-index zero_rate c.loop-s-test.true c.loop-s.invariant.2).0.forth)

pub nonzero_div-sum : goal.nonzero_div-sum
nonzero_div-sum c = long _ (forward-here c.args.rates.now c.loop-s.s-index zero_rate c.loop-s-test.true c.loop-s.invariant.2).0

pub volume_of-requires : goal.volume_of-requires
volume_of-requires c =
    let h = (forward-here c.args.rates.now c.loop-s.s-index zero_rate c.loop-s-test.true c.loop-s.invariant.2).0 in
    record { spanning = h; small = omega (arith, product-within _ _ _ (long _ h) c.if-sum-s.false) }

pub loop-s-preserved : goal.loop-s-preserved
loop-s-preserved c =
    let here = at-whole c.args.rates.now c.loop-s.s-index zero_rate c.loop-s-test.true in
    let h = forward-here c.args.rates.now c.loop-s.s-index zero_rate c.loop-s-test.true c.loop-s.invariant.2 in (
      left_step _ _ _ _ _ _ c.loop-s.invariant.0 _ here c.loop-s-test.true _ (total-go _ _ _ _ c.volume_of.ensures (omega arith)),
      omega (arith, product-within _ _ _ (long _ h.0) c.if-sum-s.false, holds _ _ c.volume_of.ensures),
      h.1,
    )

pub returns-then-s-gt-MAX : goal.returns-then-s-gt-MAX
returns-then-s-gt-MAX c =
    sym (total_first _ ∙ left_here _ _ _ _ _ _ c.loop-s.invariant.0 _ (at-whole _ _ _ c.loop-s-test.true) ∙ total-fast _ _ _ c.if-s-gt-MAX.true)

pub returns-then-sum-s : goal.returns-then-sum-s
returns-then-sum-s c =
    let here = at-whole c.args.rates.now c.loop-s.s-index zero_rate c.loop-s-test.true in
    sym (total_first _ ∙ left_here _ _ _ _ _ _ c.loop-s.invariant.0 _ here ∙ total-over _ _ _ (product-beyond _ _ _ (long _ (forward-here c.args.rates.now c.loop-s.s-index zero_rate c.loop-s-test.true c.loop-s.invariant.2).0) c.if-sum-s.true))

pub returns : goal.returns
returns c =
    sym (total_first _ ∙ left_end _ _ _ _ _ _ c.loop-s.invariant.0 c.loop-s-test.false ∙ total-end _ c.loop-s.invariant.1)
