-- 01, "The trace program": numbers are 8 bytes, big-endian, two's complement.
use Rattle.std.specs.Prelude.{ℕ, zero, suc, ◌+◌, ◌*◌, ◌^◌, List, [], ◌∷◌, length, ℤ, pos, ◌-ℤ◌, nat_lt}
use Rattle.units.specs.Logic.{pick}
use Rattle.hexadecimal.specs.Digits.{byte_at}

-- bytes as one number, the first the highest
abbrev pub big_endian : List ℕ → ℕ
big_endian [] = 0
big_endian (b ∷ l) = b * 256 ^ length l + big_endian l

-- the n bytes of a line from a place on
abbrev pub bytes_at : ℕ → List ℕ → ℕ → List ℕ
bytes_at zero line at = []
bytes_at (suc n) line at = byte_at line at ∷ bytes_at n line (at + 1)

-- a number of n bytes
unfoldable pub word_at : ℕ → List ℕ → ℕ → ℕ
word_at n line at = big_endian (bytes_at n line at)

-- a number has 8
abbrev pub number_at : List ℕ → ℕ → ℕ
number_at line at = word_at 8 line at

-- two's complement: from 2^63 on, 2^64 less
unfoldable pub signed_of : ℕ → ℤ
signed_of n = pick (nat_lt n (2 ^ 63)) (pos n) (pos n -ℤ pos (2 ^ 64))
