-- `answer::put_number` meets its contract: the byte, then the line end.
use native.Mathlib.Omega.{arith}
use Rattle.answer.proofs.Stored.{number-stored}
use Rattle.answer.proofs.put_number.Goals as goal

pub returns : goal.returns
returns c = number-stored _ _ c.put_byte.ensures c.put_line_end.ensures (omega arith) (omega arith)
