-- The text of a row: how long it is, its three numbers written one after the other, and the value of a level.
use Prim.Native.Nat.{ℕ, zero, suc, ◌+◌, ◌-◌}
use mathlib.Core.Path.{◌≡◌, refl}
use mathlib.Core.List.{List}
use native.Mathlib.Omega.{arith}
use lib.ListN.{length, length-append}
use Rattle.units.specs.declared.Date.{Date}
use Rattle.bookings.specs.Listed.{value_of}
use Rattle.text.specs.Line.{written}
use Rattle.text.specs.Text.{number_text, bits_of}
use Rattle.text.proofs.Words.{word-length}
use Rattle.text.proofs.Written.{and_then}
use Rattle.answer.specs.Rows.{row_text}

module _ (a b : Date) (v : ℕ) where
  pub row-length : length (row_text a b v) ≡ 48
  unfolding row_text
  row-length = simp (length-append, word-length)

  pub row_written : (line : List ℕ) (at : ℕ) {one two end : List ℕ} {p q : ℕ} → one ≡ written line at (number_text a.0)
      → two ≡ written one p (number_text b.0) → end ≡ written two q (number_text v) → p ≡ at + 16 → q ≡ at + 32
      → end ≡ written line at (row_text a b v)
  unfolding row_text
  row_written line at {p = p} e f g h k =
      and_then line at _ _ (word-length 8 _) e (and_then _ p _ _ (word-length 8 _) f g (omega arith)) h

-- the bits of the value of a level: all ones for 0, which stands for -1; else one below it
pub none-bits : (level : ℕ) → level ≡ 0 → 18446744073709551615 ≡ bits_of (value_of (record { 0 = level }))
unfolding bits_of
none-bits level e = rw e

pub level-bits : (level : ℕ) → (level ≡ 0 → ⊥) → level - 1 ≡ bits_of (value_of (record { 0 = level }))
unfolding bits_of
level-bits zero ne = absurd (ne refl)
level-bits (suc n) ne = omega arith
