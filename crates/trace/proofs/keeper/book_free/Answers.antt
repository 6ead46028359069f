-- `trace::keeper::book_free` leaves what the manager's booking leaves.
use Rattle.trace.proofs.Keeps.{free-booked}
use Rattle.trace.proofs.keeper.book_free.Goals as goal

pub returns-in-Ok : goal.returns-in-Ok
returns-in-Ok c = free-booked _ _ _ _ c.requires c.in-Ok.ensures

pub returns-in-Err : goal.returns-in-Err
returns-in-Err c = free-booked _ _ _ _ c.requires c.in-Err.ensures
