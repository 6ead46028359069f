-- `segmentation::from_date` meets its contract. The invariant: what is left of the list finds what is asked.
use Rattle.std.proofs.Common.{◌≡◌, drop}
use Rattle.segmentation.specs.Delay.{from_date}
use Rattle.segmentation.proofs.from_date.Given as goal

abbrev pub invariant-loop-i : goal.invariant-loop-i
invariant-loop-i l = from_date l.rule.0 l.delays l.date.0 ≡ from_date l.rule.0 (drop l.i l.delays) l.date.0
