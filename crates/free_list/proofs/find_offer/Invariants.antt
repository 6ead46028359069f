-- `free_list::find_offer` meets its contract. The invariant: the segments left have the offer that is asked, at the loop's place on.
use Rattle.std.proofs.Common.{◌≡◌, drop}
use Rattle.segmentation.specs.End.{end_of}
use Rattle.free_list.proofs.OneLoop.{loop_of}
use Rattle.free_list.proofs.find_offer.Given as goal

abbrev pub invariant-loop-place : goal.invariant-loop-place
invariant-loop-place l =
    loop_of (end_of l.edition.0 l.rates) l.asked.0 l.size.0 0 l.free
    ≡ loop_of (end_of l.edition.0 l.rates) l.asked.0 l.size.0 l.place (drop l.place l.free)
