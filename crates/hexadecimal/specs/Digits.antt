-- 01, "The trace program": a line of lower-case hexadecimal, its digits and its bytes.
use Rattle.std.specs.Prelude.{ℕ, ◌+◌, ◌-◌, ◌*◌, Bool, ◌||◌, List, [], ◌∷◌, nat_le, slice_index}
use Rattle.units.specs.Logic.{both, pick, all_of}

-- a byte from a to b
abbrev pub within : ℕ → ℕ → ℕ → Bool
within a b x = both (nat_le a x) (nat_le x b)

-- a lower-case hexadecimal digit: 0 to 9, which are 48 to 57, or a to f, which are 97 to 102
unfoldable pub is_digit : ℕ → Bool
is_digit x = within 48 57 x || within 97 102 x

-- a digit's value, 0 where it is none
unfoldable pub value_of : ℕ → ℕ
value_of x = pick (is_digit x) (pick (nat_le x 57) (x - 48) (x - 87)) 0

-- every byte of the line is a digit
abbrev pub clean_of : List ℕ → Bool
clean_of line = all_of is_digit line

-- two digits are a byte, the high one first; one left over is none
abbrev pub bytes_of : List ℕ → List ℕ
bytes_of [] = []
bytes_of (x ∷ []) = []
bytes_of (x ∷ y ∷ line) = (16 * value_of x + value_of y) ∷ bytes_of line

-- the byte at a place, 0 past the end
unfoldable pub byte_at : List ℕ → ℕ → ℕ
byte_at line at = slice_index (bytes_of line) at
