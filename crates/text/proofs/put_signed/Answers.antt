-- `text::put_signed` meets its contract: its bits as a number.
use Rattle.std.proofs.Common.{ap, ◌∙◌, of_z, w64}
use mir.Facts.{to_z-of_z}
use Rattle.text.proofs.Complement.{bits_held}
use Rattle.text.proofs.put_signed.Goals as goal

pub returns : goal.returns
returns c =
    rw (← (c.cast_unsigned.ensures ∙ ap (of_z w64) (to_z-of_z c.ranges.z) ∙ bits_held c.args.z)) c.put_number.ensures
