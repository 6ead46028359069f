-- `legacy::volumes::take` meets its contract. The invariant: the places passed hold the size less.
use mathlib.Core.Path.{◌≡◌}
use Rattle.legacy.proofs.First.{on_first, less}
use Rattle.legacy.proofs.volumes.take.Given as goal

abbrev pub invariant-loop-volume : goal.invariant-loop-volume
invariant-loop-volume l = l.volume-items ≡ on_first (less l.size.0) l.volume-index l.fn.volumes
