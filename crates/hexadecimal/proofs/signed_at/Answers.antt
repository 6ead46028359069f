-- `hexadecimal::signed_at` meets its contract: the bits, read as signed.
use Rattle.std.proofs.Common.{ap, ◌∙◌}
use Rattle.hexadecimal.specs.Numbers.{signed_of}
use Rattle.hexadecimal.proofs.Complement.{read_back, signed-bits}
use Rattle.hexadecimal.proofs.signed_at.Goals as goal

pub returns : goal.returns
returns c =
    read_back (c.cast_signed.ensures ∙ signed-bits _ c.number_at.type_inv ∙ ap signed_of c.number_at.ensures) record { sfits = c.cast_signed.type_inv }
