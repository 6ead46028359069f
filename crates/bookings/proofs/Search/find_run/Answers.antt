-- `bookings::Search::find_run` meets its contract: what is left of the list is searched with the run so far, and an offer is the answer.
use Rattle.std.proofs.Common.{sym}
use Rattle.bookings.proofs.SearchLaws.{covers-later, from_here, search-end, search-on, search-sent}
use Rattle.bookings.proofs.Search.find_run.Goals as goal

pub turn-requires : goal.turn-requires
turn-requires c =
    record { covered = covers-later _ _ _ (from_here _ _ _ _ c.loop-g-test.true c.requires.inside) c.requires.covered }

pub returns-in_err-run : goal.returns-in_err-run
returns-in_err-run c =
    rw c.from_residual.ensures (sym (search-sent _ _ _ _ _ _ _ c.loop-g.invariant _ c.loop-g-test.true _ c.in_err-run.ensures))

pub loop-g-preserved : goal.loop-g-preserved
loop-g-preserved c = search-on _ _ _ _ _ _ _ c.loop-g.invariant _ c.loop-g-test.true _ c.in_ok-run.ensures

pub returns : goal.returns
returns c = sym (search-end _ _ _ _ _ _ _ c.loop-g.invariant c.loop-g-test.false)
