-- `hexadecimal::values` meets its contract: the digits passed have their values, the other places 0.
use Rattle.std.proofs.Common.{arith}
use Rattle.hexadecimal.proofs.Pairs.{values_first, values_step}
use Rattle.hexadecimal.proofs.values.Goals as goal

pub loop-i-init : goal.loop-i-init
loop-i-init c = values_first

pub loop-i-preserved : goal.loop-i-preserved
loop-i-preserved c =
    let l = c.loop-i in values_step c.args.digits.now l.i _ _ (omega arith) (omega arith) l.invariant c.value.ensures.value
