-- `walk::room_in` meets its contract. The invariant: what is left of the list has the answer that is asked, and the capacity
-- of the listed segment in hand, up to the rate segment in hand, is found.
use Rattle.std.proofs.Common.{◌+◌, ◌-◌, length}
use Rattle.units.specs.Limits.{segments_max}
use Rattle.free_list.proofs.WalkLaws.{Walking}
use Rattle.free_list.proofs.walk.room_in.Given as goal

abbrev pub invariant-loop-g : goal.invariant-loop-g
invariant-loop-g l = Walking l.rates l.free l.window.start.0 l.window.end.0 (length l.free) l.w

abbrev pub decreases-loop-g : goal.decreases-loop-g
decreases-loop-g l = (length l.free - l.w.i) + (segments_max - l.w.place)
