-- `trace::keeper::book_priority` leaves what the manager's booking leaves.
use Rattle.trace.proofs.Keeps.{priority-booked}
use Rattle.trace.proofs.keeper.book_priority.Goals as goal

pub returns-in-Ok : goal.returns-in-Ok
returns-in-Ok c = priority-booked _ _ _ _ c.requires c.in-Ok.ensures

pub returns-in-Err : goal.returns-in-Err
returns-in-Err c = priority-booked _ _ _ _ c.requires c.in-Err.ensures
