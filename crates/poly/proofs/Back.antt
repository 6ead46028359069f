-- What a signed local is read back as, `to_z w64 (of_z w64 z)`: z itself, where z fits.
use mathlib.Core.Path.{◌≡◌}
use lib.IntN.{ℤ}
use mir.Syntax.{w64}
use mir.Val.{SFits, to_z, of_z}
use mir.Facts.{to_z-of_z}

abbrev pub rd : ℤ → ℤ
rd z = to_z w64 (of_z w64 z)

-- z, which is t, is read back as t where t fits
pub back : {z t : ℤ} → z ≡ t → SFits w64 t → rd z ≡ t
back e f = rw e (to_z-of_z f)
