-- `contact::test::volumes_ok` meets its contract: with the date reached and the volume left, the segments left have the answer of all.
use lib.ListN.{length}
use Rattle.units.specs.Limits.{volume_max}
use Rattle.units.proofs.Loop.{Left}
use Rattle.contact.proofs.Volumes.{taken}
use Rattle.contact.proofs.test.volumes_ok.Given as goal

abbrev pub invariant-loop-s : goal.invariant-loop-s
invariant-loop-s l =
    Left (taken l.window.end.0) l.rates (length l.rates) (l.window.start.0, volume_max) l.s-index (l.at.0, l.room.0)
