-- `legacy::Queue::pull` meets its contract: enough in the queues up to the class, or the refusal.
use mathlib.Core.Path.{sym}
use native.Mathlib.Omega.{arith}
use Rattle.units.proofs.Choice.{told-yes, told-no}
use Rattle.legacy.proofs.Facts.{sound}
use Rattle.legacy.proofs.First.{take_given}
use Rattle.legacy.proofs.Moves.{pull-stop, pull-go}
use Rattle.legacy.proofs.Queue.pull.Goals as goal

pub shared_ref_as_front-hold : goal.shared_ref_as_front-hold
shared_ref_as_front-hold c = let s = sound _ c.requires in omega arith

pub returns-then-not-hold : goal.returns-then-not-hold
returns-then-not-hold c = sym (pull-stop _ _ _ c.class-reached.ensures (told-no c.hold.ensures c.if-not-hold.true))

pub returns : goal.returns
returns c =
    sym (pull-go _ _ _ c.class-reached.ensures (told-yes c.hold.ensures c.if-not-hold.false) _ (take_given _ _ _ _ c.take.ensures))
