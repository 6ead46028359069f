-- `segmentation::volume_between` meets its contract: the sum so far, with the capacity of what is left, is the whole.
use Rattle.std.proofs.Common.{refl, arith}
use Rattle.units.proofs.Loop.{at-whole}
use Rattle.segmentation.specs.declared.VolumeSegment.{VolumeSegment}
use Rattle.segmentation.proofs.RateLoop.{add-first, add_ok, add_step, add-end}
use Rattle.segmentation.proofs.volume_between.Goals as goal

abbrev zero_volume : VolumeSegment
zero_volume = record { start = record { 0 = 0 }; end = record { 0 = 0 }; volume = record { 0 = 0 } }

pub loop-s-init : goal.loop-s-init
loop-s-init c = add-first _ _ _ _ c.requires.in_turn

pub part-sum-requires : goal.part-sum-requires
part-sum-requires c = add_ok _ _ _ _ _ _ _ c.loop-s.invariant (at-whole _ _ zero_volume c.loop-s-test.true)

pub overflow_add-sum : goal.overflow_add-sum
overflow_add-sum c =
    omega (arith, c.part-sum.ensures.small, c.loop-s.invariant.small, c.requires.few)

pub loop-s-preserved : goal.loop-s-preserved
loop-s-preserved c =
    add_step _ _ _ _ _ _ _ c.loop-s.invariant (at-whole _ _ zero_volume c.loop-s-test.true) c.loop-s-test.true c.part-sum.result.0 _ c.part-sum.ensures.is c.part-sum.ensures.small refl

pub returns : goal.returns
returns c = add-end _ _ _ _ _ _ c.loop-s.invariant c.loop-s-test.false
