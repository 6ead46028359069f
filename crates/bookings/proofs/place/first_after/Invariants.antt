-- `bookings::place::first_after` meets its contract: no segment before the loop's place ends after the date.
use Prim.Native.Nat.{◌+◌}
use Rattle.bookings.proofs.Places.{Passed}
use Rattle.bookings.proofs.place.first_after.Given as goal

abbrev pub invariant-loop-i : goal.invariant-loop-i
invariant-loop-i l = Passed (λ g. g.end.0) l.listed (l.date.0 + 1) l.i
