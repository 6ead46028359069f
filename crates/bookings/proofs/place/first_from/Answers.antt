-- `bookings::place::first_from` meets its contract: each segment before the loop's place starts before the date.
use Rattle.units.proofs.Compare.{le-yes, le-not}
use Rattle.bookings.proofs.Places.{look-first, look-end, look-here, look-on}
use Rattle.bookings.proofs.place.first_from.Goals as goal

pub loop-i-init : goal.loop-i-init
loop-i-init c = look-first (λ g. g.start.0) c.args.listed.now _

pub loop-i-preserved : goal.loop-i-preserved
loop-i-preserved c = look-on (λ g. g.start.0) c.args.listed.now _ _ c.loop-i.invariant (le-not _ _ _ c.le.ensures c.if-le.false)

pub returns : goal.returns
returns c = look-end (λ g. g.start.0) c.args.listed.now _ _ c.loop-i.invariant c.loop-i-test.false

pub returns-then-le : goal.returns-then-le
returns-then-le c = look-here (λ g. g.start.0) c.args.listed.now _ _ c.loop-i.invariant c.loop-i-test.true (le-yes _ _ _ c.le.ensures c.if-le.true)
