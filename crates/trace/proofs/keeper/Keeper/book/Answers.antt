-- `trace::keeper::Keeper::book` keeps the rules of what is held.
use Rattle.std.proofs.Common.{rules}
use Rattle.trace.proofs.Keeps.{queue-booked}
use Rattle.trace.proofs.keeper.Keeper.book.Goals as goal

pub invariant_of-self-in-Queue : goal.invariant_of-self-in-Queue
invariant_of-self-in-Queue c =
    record { keeps_rules = queue-booked _ _ _ c.in-Queue.r (search rules) c.book_kept-b.ensures }
