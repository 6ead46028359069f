-- `hexadecimal::folded` meets its contract: digit after digit.
use Rattle.hexadecimal.proofs.Horner.{Read}
use Rattle.hexadecimal.proofs.folded.Given as goal

abbrev pub invariant-loop-digit : goal.invariant-loop-digit
invariant-loop-digit l = Read l.fn.digits l.digit-index l.n
