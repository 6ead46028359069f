-- `bookings::cover_ok` meets its contract. The invariant: what is left of the list covers what is left of the window.
use Rattle.std.proofs.Common.{◌≡◌, drop}
use Rattle.bookings.specs.Listed.{cover_ok}
use Rattle.bookings.proofs.cover_ok.Given as goal

abbrev pub invariant-loop-g : goal.invariant-loop-g
invariant-loop-g l = cover_ok l.fn.window.start.0 l.fn.window.end.0 l.fn.segments ≡ cover_ok l.at.0 l.fn.window.end.0 (drop l.g-index l.segments)
