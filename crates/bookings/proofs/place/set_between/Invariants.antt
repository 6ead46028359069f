-- `bookings::place::set_between` meets its contract: the segments from the loop's place on are set and moved.
use Rattle.bookings.specs.Cut.{sent_of}
use Rattle.bookings.proofs.Moved.{Moved}
use Rattle.bookings.proofs.place.set_between.Given as goal

abbrev pub invariant-loop-k : goal.invariant-loop-k
invariant-loop-k l = Moved (sent_of l.send.start.0 l.send.end.0 l.level.0) l.initial.segments l.a l.b l.by l.segments l.k
