-- `text::put_interval` meets its contract: start, then end.
use native.Mathlib.Omega.{arith}
use Rattle.text.proofs.Parts.{interval-written}
use Rattle.text.proofs.put_interval.Goals as goal

pub returns : goal.returns
returns c = interval-written _ _ _ c.put_number.ensures c.put_number-2.ensures (omega arith)
