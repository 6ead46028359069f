-- `hexadecimal::values` meets its contract: the digits passed have their values, the other places 0.
use Rattle.std.proofs.Common.{◌≡◌, take}
use Rattle.hexadecimal.specs.Granted.{padded_values}
use Rattle.hexadecimal.proofs.values.Given as goal

abbrev pub invariant-loop-i : goal.invariant-loop-i
invariant-loop-i l = l.values ≡ padded_values (take l.i l.digits)
