-- `seg::FreeVolume::room_kept` meets its contract: a record that keeps its rules holds its list's room.
use mathlib.Core.Path.{ap}
use Prim.Native.Nat.{ℕ}
use Rattle.seg.proofs.Facts.{facts}
use Rattle.seg.proofs.FreeVolume.room_kept.Goals as goal

pub returns : goal.returns
returns c = ap (λ (n : ℕ). record { 0 = n }) (facts _ c.requires).room
