-- `bookings::place::first_from` meets its contract: each segment before the loop's place starts before the date.
use Rattle.bookings.proofs.Places.{Passed}
use Rattle.bookings.proofs.place.first_from.Given as goal

abbrev pub invariant-loop-i : goal.invariant-loop-i
invariant-loop-i l = Passed (λ g. g.start.0) l.listed l.date.0 l.i
