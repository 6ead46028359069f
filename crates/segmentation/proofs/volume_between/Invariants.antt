-- `segmentation::volume_between` meets its contract. The invariant: the sum so far, with the capacity of what is left, is the whole.
use Rattle.std.proofs.Common.{length}
use Rattle.segmentation.proofs.RateLoop.{Adding}
use Rattle.segmentation.proofs.volume_between.Given as goal

abbrev pub invariant-loop-s : goal.invariant-loop-s
invariant-loop-s l = Adding l.rates (length l.rates) l.start.0 l.end.0 l.s-index l.sum
