-- `contact::opening::total_of` meets its contract: from the sum reached on, the segments left have the answer of all.
use Prim.Native.Nat.{◌≤◌}
use lib.ListN.{length, drop}
use Rattle.units.specs.Limits.{volume_max}
use Rattle.units.proofs.Loop.{Left}
use Rattle.contact.specs.Granted.{Forward}
use Rattle.contact.proofs.Rates.{total_from}
use Rattle.contact.proofs.opening.total_of.Given as goal

abbrev pub invariant-loop-s : goal.invariant-loop-s
invariant-loop-s l =
    (Left total_from l.rates (length l.rates) 0 l.s-index l.sum.0) × (l.sum.0 ≤ volume_max) × (Forward (drop l.s-index l.rates))
