-- `bookings::Bookings::push` meets its contract: a store at the count, where there is room.
use Rattle.bookings.proofs.CutLoop.{push-none, push-some, push-full}
use Rattle.bookings.proofs.Bookings.push.Goals as goal

pub returns-in_default : goal.returns-in_default
returns-in_default c = rw c.in_default.is (push-none _ c.requires.tidy)

pub returns-then-self-ge-COUNT_MAX : goal.returns-then-self-ge-COUNT_MAX
returns-then-self-ge-COUNT_MAX c = rw c.in-Some.is (push-full _ c.requires.tidy _ c.if-self-ge-COUNT_MAX.true)

pub returns : goal.returns
returns c = rw c.in-Some.is (push-some _ c.requires.tidy _ c.if-self-ge-COUNT_MAX.false)
