-- `legacy::Queue::put` meets its contract: room in the queues up to the class, or the refusal.
use mathlib.Core.Path.{sym}
use native.Mathlib.Omega.{arith}
use Rattle.units.proofs.Choice.{told-yes, told-no}
use Rattle.legacy.specs.Record.{queue_max}
use Rattle.legacy.proofs.Facts.{sound, first-low}
use Rattle.legacy.proofs.First.{add_given}
use Rattle.legacy.proofs.Moves.{put-stop, put_go}
use Rattle.legacy.proofs.Queue.put.Goals as goal

pub shared_ref_as_front-within : goal.shared_ref_as_front-within
shared_ref_as_front-within c = let s = sound _ c.requires.kept in omega arith

pub returns-then-not-within : goal.returns-then-not-within
returns-then-not-within c = sym (put-stop _ _ _ c.class-reached.ensures c.requires.small (told-no c.within.ensures c.if-not-within.true))

pub add-requires-clause-low : goal.add-requires-clause-low
add-requires-clause-low c = first-low queue_max c.args.self.now.queues (sound _ c.requires.kept).queue _

pub returns : goal.returns
returns c =
    sym (put_go _ _ _ c.class-reached.ensures c.requires.small (told-yes c.within.ensures c.if-not-within.false) _ (add_given _ _ _ _ c.add.ensures))
