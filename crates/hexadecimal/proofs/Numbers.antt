-- A number by position: its first byte and the rest, what of it lies past the end, and the part of the line that it is.
use Rattle.std.proofs.Common.{◌≡◌, ℕ, zero, suc, ◌+◌, ◌*◌, ◌/◌, ◌^◌, ◌<◌, ◌≤◌, List, ◌∷◌, length, take, drop, refl, ap, add-one, arith, drop-cons}
use Rattle.hexadecimal.specs.Digits.{bytes_of, byte_at}
use Rattle.hexadecimal.specs.Numbers.{big_endian, bytes_at, word_at}
use Rattle.hexadecimal.proofs.Bytes.{byte_past, length-bytes}

module _ (line : List ℕ) where
  length-bytes-at : (n at : ℕ) → length (bytes_at n line at) ≡ n
  length-bytes-at zero at = refl
  length-bytes-at (suc n) at = ap suc (length-bytes-at n (at + 1))

  pub word_none : (at : ℕ) → word_at 0 line at ≡ 0
  unfolding word_at
  word_none at = refl

  pub word-cons : (n at : ℕ) → word_at (suc n) line at ≡ byte_at line at * 256 ^ n + word_at n line (at + 1)
  unfolding word_at
  word-cons n at = omega (arith, ap (λ (k : ℕ). byte_at line at * 256 ^ k) (length-bytes-at n (at + 1)))

  pub word-past : (n at : ℕ) → length line / 2 ≤ at → word_at n line at ≡ 0
  word-past zero at h = word_none at
  word-past (suc n) at h = rw (word-cons n at, byte_past line at h) (omega (arith, word-past n (at + 1) (omega arith)))

  -- n bytes that are all in the line
  pub bytes_inside : (n at : ℕ) → at + n ≤ length line / 2 → bytes_at n line at ≡ take n (drop at (bytes_of line))
  unfolding byte_at
  bytes_inside zero at h = refl
  bytes_inside (suc n) at h =
      let lt : at < length (bytes_of line) = omega (arith, length-bytes line) in
      rw (drop-cons (bytes_of line) at 0 lt, ← add-one at) (ap (λ (l : List ℕ). byte_at line at ∷ l) (bytes_inside n (at + 1) (omega arith)))

  pub word-inside : (n at : ℕ) → at + n ≤ length line / 2 → word_at n line at ≡ big_endian (take n (drop at (bytes_of line)))
  unfolding word_at
  word-inside n at h = ap big_endian (bytes_inside n at h)
