-- `trace::keeper::Keeper::queueing` keeps the rules of what is held.
use Rattle.std.proofs.Common.{rules}
use Rattle.trace.proofs.Keeps.{queueing-kept}
use Rattle.trace.proofs.keeper.Keeper.queueing.Goals as goal

pub invariant_of-self-in-Queue : goal.invariant_of-self-in-Queue
invariant_of-self-in-Queue c =
    record { keeps_rules = queueing-kept _ c.in-Queue.r (search rules) c.call-b.ensures }
