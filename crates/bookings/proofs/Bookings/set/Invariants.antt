-- `bookings::Bookings::set` meets its contract. The invariant: what is listed so far, with what the other segments leave, is the whole.
use Rattle.bookings.specs.Listed.{listed}
use Rattle.bookings.proofs.CutLoop.{Laying}
use Rattle.bookings.proofs.Bookings.set.Given as goal

abbrev pub invariant-loop-g : goal.invariant-loop-g
invariant-loop-g l = Laying l.fn.send.start.0 l.fn.send.end.0 l.fn.level.0 (listed l.fn.self) l.g-index l.list
