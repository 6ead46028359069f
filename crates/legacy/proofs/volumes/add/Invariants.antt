-- `legacy::volumes::add` meets its contract. The invariant: the places passed hold the size more.
use mathlib.Core.Path.{◌≡◌}
use Rattle.legacy.proofs.First.{on_first, more}
use Rattle.legacy.proofs.volumes.add.Given as goal

abbrev pub invariant-loop-volume : goal.invariant-loop-volume
invariant-loop-volume l = l.volume-items ≡ on_first (more l.size.0) l.volume-index l.fn.volumes
