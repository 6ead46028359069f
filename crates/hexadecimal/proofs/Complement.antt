-- Two's complement: a number's bits, read as signed.
use Rattle.std.proofs.Common.{◌≡◌, ℕ, ◌-◌, ◌^◌, ◌<◌, ◌≤◌, suc, ℤ, pos, negsuc, ◌-ℤ◌, sym, ap, ◌∙◌, arith, to_z-of_z, w64, SFits, to_z, of_z, le-ltb, lt-ltb, ⊎_elim}
use Rattle.std.proofs.lemmas.Bool.{cases_lt}
use mir.Facts.{to_z_pos}
use Rattle.units.proofs.Choice.{pick_yes}
use Rattle.hexadecimal.specs.Numbers.{signed_of}

-- a signed local is read back as it was
pub read_back : {z t : ℤ} → z ≡ t → SFits w64 z → to_z w64 (of_z w64 z) ≡ t
read_back e f = to_z-of_z f ∙ e

module _ (n : ℕ) (fit : n < 2 ^ 64) where
  less : pos n -ℤ pos (2 ^ 64) ≡ negsuc (2 ^ 64 - suc n)
  less = rw (lt-ltb n (2 ^ 64) fit) (ap negsuc (omega arith))

  signed_low : n < 2 ^ 63 → to_z w64 n ≡ signed_of n
  unfolding signed_of
  signed_low h = to_z_pos w64 h ∙ sym (pick_yes _ _ _ (lt-ltb _ _ h))

  signed_high : 2 ^ 63 ≤ n → to_z w64 n ≡ signed_of n
  unfolding signed_of
  signed_high h = rw (le-ltb n (2 ^ 63) h) (sym less)

  pub signed-bits : to_z w64 n ≡ signed_of n
  signed-bits = ⊎_elim signed_low signed_high (cases_lt n (2 ^ 63))
