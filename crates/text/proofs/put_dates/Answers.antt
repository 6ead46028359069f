-- `text::put_dates` meets its contract: the two intervals.
use native.Mathlib.Omega.{arith}
use Rattle.text.proofs.Parts.{dates-written}
use Rattle.text.proofs.put_dates.Goals as goal

pub returns : goal.returns
returns c = dates-written _ _ _ c.put_interval.ensures c.put_interval-2.ensures (omega arith)
