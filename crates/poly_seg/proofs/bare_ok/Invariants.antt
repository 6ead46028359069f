-- `poly_seg::bare_ok` meets its contract: from the least start allowed on, the segments left have the answer of all.
use Rattle.std.proofs.Common.{◌≡◌, [], drop}
use Rattle.free_list.specs.Listed.{list_ok}
use Rattle.poly_seg.proofs.bare_ok.Given as goal

abbrev pub invariant-loop-g : goal.invariant-loop-g
invariant-loop-g l =
    list_ok [] l.window.start.0 l.window.end.0 l.segments ≡ list_ok [] l.low.0 l.window.end.0 (drop l.g-index l.segments)
