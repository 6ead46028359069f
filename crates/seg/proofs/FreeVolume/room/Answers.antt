-- `seg::FreeVolume::room` meets its contract: the record's test, then the figure that it holds.
use Prim.Native.Nat.{ℕ}
use mathlib.Core.Path.{sym, ap, ◌∙◌}
use Rattle.units.proofs.Logic.{unless-go}
use Rattle.units.proofs.Choice.{told-yes}
use Rattle.seg.specs.declared.RoomLeft.{RoomLeft}
use Rattle.seg.specs.Room.{room_answer}
use Rattle.seg.proofs.Facts.{facts}
use Rattle.seg.proofs.FreeVolume.room.Goals as goal

pub returns : goal.returns
unfolding room_answer
returns c =
    let ok = told-yes c.ok.ensures c.if-not-ok.false in
    ap {B = RoomLeft} (λ (n : ℕ). record { number = 0; room = record { 0 = n } }) (facts _ ok).room ∙ sym (unless-go _ _ _ ok)
