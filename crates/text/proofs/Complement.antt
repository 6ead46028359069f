-- The bits of a signed number, as a local holds them.
use Rattle.std.proofs.Common.{◌≡◌, ℤ, pos, negsuc, refl, of_z, w64}
use Rattle.text.specs.Text.{bits_of}

pub bits_held : (z : ℤ) → of_z w64 z ≡ bits_of z
unfolding bits_of
bits_held (pos n) = refl
bits_held (negsuc n) = refl
