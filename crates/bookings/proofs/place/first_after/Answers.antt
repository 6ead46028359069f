-- `bookings::place::first_after` meets its contract: no segment before the loop's place ends after the date.
use Prim.Native.Nat.{◌<◌, ◌≤◌}
use native.Mathlib.Omega.{arith}
use lib.ListN.{get_or}
use Rattle.units.proofs.Compare.{lt-yes, lt-not}
use Rattle.bookings.specs.Granted.{zero_booking}
use Rattle.bookings.proofs.Places.{look-first, look-end, look-here, look-on}
use Rattle.bookings.proofs.place.first_after.Goals as goal

pub loop-i-init : goal.loop-i-init
loop-i-init c = look-first (λ g. g.end.0) c.args.listed.now _

pub loop-i-preserved : goal.loop-i-preserved
loop-i-preserved c =
    look-on (λ g. g.end.0) c.args.listed.now _ _ c.loop-i.invariant (let h : (get_or c.args.listed.now c.loop-i.i zero_booking).end.0 ≤ c.args.date.0 = lt-not _ _ _ c.lt.ensures c.if-lt.false in omega arith)

pub returns : goal.returns
returns c = look-end (λ g. g.end.0) c.args.listed.now _ _ c.loop-i.invariant c.loop-i-test.false

pub returns-then-lt : goal.returns-then-lt
returns-then-lt c =
    look-here (λ g. g.end.0) c.args.listed.now _ _ c.loop-i.invariant c.loop-i-test.true (let h : c.args.date.0 < (get_or c.args.listed.now c.loop-i.i zero_booking).end.0 = lt-yes _ _ _ c.lt.ensures c.if-lt.true in omega arith)
