-- `segmentation::find_end` meets its contract. The invariant: what is left of the list, at the present date and rest, has the end that is asked.
use Rattle.std.proofs.Common.{length}
use Rattle.segmentation.proofs.RateLoop.{Seeking}
use Rattle.segmentation.proofs.find_end.Given as goal

abbrev pub invariant-loop-s : goal.invariant-loop-s
invariant-loop-s l = Seeking l.edition.0 l.rates (length l.rates) l.deadline.0 l.initial.at.0 l.initial.rest.0 l.s-index l.at.0 l.rest.0
