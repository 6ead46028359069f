-- `contact::opening::volumes_of` meets its contract: the places passed hold their volumes, the others zero; those left fit.
use mathlib.Core.Path.{◌≡◌}
use mathlib.Core.List.{map}
use lib.ListN.{take, drop}
use Rattle.units.specs.Limits.{segments_max}
use Rattle.units.specs.Arrays.{padded}
use Rattle.contact.specs.Segments.{volume_of, zero_volume}
use Rattle.contact.specs.Granted.{AllFitting}
use Rattle.contact.proofs.opening.volumes_of.Given as goal

abbrev pub invariant-loop-i : goal.invariant-loop-i
invariant-loop-i l =
    (l.out ≡ padded segments_max zero_volume (map volume_of (take l.i l.rates))) × (AllFitting (drop l.i l.rates))
