-- `hexadecimal::clean` meets its contract: the answer so far is carried to the end.
use Rattle.std.proofs.Common.{arith}
use Rattle.hexadecimal.specs.Digits.{is_digit}
use Rattle.hexadecimal.proofs.Carried.{carried_first, carried-end, carried_step}
use Rattle.hexadecimal.proofs.clean.Goals as goal

pub loop-byte-init : goal.loop-byte-init
loop-byte-init c = carried_first is_digit _

pub loop-byte-preserved : goal.loop-byte-preserved
loop-byte-preserved c =
    carried_step is_digit _ _ _ c.loop-byte.invariant 0 _ (omega arith) c.is_digit-good.ensures

pub returns : goal.returns
returns c = carried-end is_digit _ _ _ c.loop-byte.invariant (omega arith)
