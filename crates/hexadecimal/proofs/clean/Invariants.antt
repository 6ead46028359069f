-- `hexadecimal::clean` meets its contract: the answer so far is carried to the end.
use Rattle.hexadecimal.specs.Digits.{is_digit}
use Rattle.hexadecimal.proofs.Carried.{Carried}
use Rattle.hexadecimal.proofs.clean.Given as goal

abbrev pub invariant-loop-byte : goal.invariant-loop-byte
invariant-loop-byte l = Carried is_digit l.line l.byte-index l.good
