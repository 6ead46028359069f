-- `hexadecimal::folded` meets its contract: digit after digit.
use Rattle.std.proofs.Common.{◌≡◌, ◌<◌, length, get_or, arith, rules}
use Rattle.hexadecimal.proofs.Horner.{digit-small, read-room, read_step, read-end}
use Rattle.hexadecimal.proofs.folded.Goals as goal
use Rattle.hexadecimal.proofs.folded.Goals.{In-loop-digit, Start}

size : (c : Start) → length c.args.digits ≡ 16
size c = search rules

-- the digit of a turn
digit : (c : In-loop-digit) → get_or c.args.digits c.loop-digit.digit-index 0 < 16
digit c =
    let l = c.loop-digit in
    digit-small c.args.digits l.digit-index (omega arith) c.requires

pub overflow_mul-n : goal.overflow_mul-n
overflow_mul-n c = omega (arith, read-room _ _ _ c.loop-digit.invariant (omega arith))

pub overflow_add-n : goal.overflow_add-n
overflow_add-n c = omega (arith, digit (goal.at.overflow_add-n c).In-loop-digit, read-room _ _ _ c.loop-digit.invariant (omega arith))

pub loop-digit-preserved : goal.loop-digit-preserved
loop-digit-preserved c =
    let l = c.loop-digit in
    read_step c.args.digits l.digit-index l.n l.invariant _ (omega (arith, size (goal.at.loop-digit-preserved c).Start)) (digit (goal.at.loop-digit-preserved c).In-loop-digit) (omega (arith, c.from.ensures))

pub returns : goal.returns
returns c = read-end _ _ _ c.loop-digit.invariant (omega (arith, size (goal.at.returns c).Start))
