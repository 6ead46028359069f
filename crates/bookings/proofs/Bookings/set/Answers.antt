-- `bookings::Bookings::set` meets its contract: the list with the booking is laid, as far as there is room.
use Rattle.std.proofs.lemmas.Result.{err_from_is_err_and}
use Rattle.bookings.proofs.CutLoop.{lay-first, lay-on, lay-stop, lay-last}
use Rattle.bookings.proofs.Bookings.set.Goals as goal

pub loop-g-init : goal.loop-g-init
loop-g-init c = lay-first _ _ _ _ _ c.default-list.ensures

pub lay-requires : goal.lay-requires
lay-requires c = record { tidy = c.loop-g.invariant.tidy }

pub returns-in_err-lay : goal.returns-in_err-lay
returns-in_err-lay c =
    let p = err_from_is_err_and c.from_residual.result c.from_residual.ensures.1 in
    let lt = rw c.listed-g-items.ensures at c.loop-g-test.true in
    let is = rw c.listed-g-items.ensures at c.parts.ensures in
    rw (p.1, p.2) (lay-stop _ _ _ _ _ _ c.loop-g.invariant _ lt _ is _ c.in_err-lay.ensures)

pub loop-g-preserved : goal.loop-g-preserved
loop-g-preserved c =
    let lt = rw c.listed-g-items.ensures at c.loop-g-test.true in
    let is = rw c.listed-g-items.ensures at c.parts.ensures in
    lay-on _ _ _ _ _ _ c.loop-g.invariant _ lt _ is _ c.in_ok-lay.ensures

pub returns : goal.returns
returns c = lay-last _ _ _ _ _ _ c.loop-g.invariant (rw c.listed-g-items.ensures at c.loop-g-test.false)
