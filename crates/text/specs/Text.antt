-- 01, "The trace program": the text of an answer in lower-case hexadecimal; numbers are 8 bytes, big-endian, two's complement.
use Rattle.std.specs.Prelude.{ℕ, zero, suc, ◌+◌, ◌-◌, ◌/◌, ◌%◌, ◌^◌, List, [], ◌∷◌, ◌++◌, ltb, ℤ, pos, negsuc}
use Rattle.units.specs.declared.Interval.{Interval}
use Rattle.units.specs.declared.TxData.{TxData}
use Rattle.units.specs.Logic.{pick}

-- the digit of a value: 0 to 9, then a to f
unfoldable pub digit_of : ℕ → ℕ
digit_of v = pick (ltb v 10) (48 + v) (87 + v)

-- a byte is two digits, the high one first
unfoldable pub byte_text : ℕ → List ℕ
byte_text b = digit_of (b / 16) ∷ digit_of (b % 16) ∷ []

-- the n lowest bytes of a number, the highest of them first
unfoldable pub word_text : ℕ → ℕ → List ℕ
word_text zero x = []
word_text (suc n) x = byte_text (x / 256 ^ n % 256) ++ word_text n x

-- a number is 8 bytes
abbrev pub number_text : ℕ → List ℕ
number_text x = word_text 8 x

-- two's complement: below 0, 2^64 more
unfoldable pub bits_of : ℤ → ℕ
bits_of (pos n) = n
bits_of (negsuc n) = 2 ^ 64 - suc n

abbrev pub signed_text : ℤ → List ℕ
signed_text z = number_text (bits_of z)

-- start and end
unfoldable pub interval_text : Interval → List ℕ
interval_text w = number_text w.start.0 ++ number_text w.end.0

-- four dates: send start, send end, receive start, receive end
unfoldable pub dates_text : TxData → List ℕ
dates_text d = interval_text d.send ++ interval_text d.recv

-- the texts of a list, one after the other
unfoldable pub list_text : {A : Type 0} → (A → List ℕ) → List A → List ℕ
list_text text [] = []
list_text text (a ∷ l) = text a ++ list_text text l
