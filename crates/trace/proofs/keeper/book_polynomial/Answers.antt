-- `trace::keeper::book_polynomial` leaves what the manager's booking leaves.
use Rattle.std.proofs.Common.{sym}
use Rattle.trace.proofs.Keeps.{polynomial-inside, polynomial-cut}
use Rattle.trace.proofs.keeper.book_polynomial.Goals as goal

pub cut-d-requires : goal.cut-d-requires
cut-d-requires c =
    polynomial-inside _ _ _ _ c.requires c.chosen-c.ensures (sym c.in_default.ensures)

pub returns : goal.returns
returns c =
    polynomial-cut _ _ _ _ c.requires c.chosen-c.ensures (sym c.in_default.ensures) c.cut-d.ensures
