-- What inner functions take for granted or compute on the way. No promise of a public call rests on it.
use Rattle.std.specs.Prelude.{ℕ, ◌+◌, ◌*◌, ◌^◌, Bool, List, [], ◌∷◌, map, length, take, drop, nat_lt}
use Rattle.units.specs.Arrays.{padded}
use Rattle.hexadecimal.specs.Digits.{value_of}

-- a digit's value is below 16
abbrev pub small : ℕ → Bool
small v = nat_lt v 16

-- the values of digits, with zeros up to 16
abbrev pub padded_values : List ℕ → List ℕ
padded_values digits = padded 16 0 (map value_of digits)

-- the values of n digits from a place on, with zeros up to 16
abbrev pub values_of : List ℕ → ℕ → ℕ → List ℕ
values_of line from n = padded_values (take n (drop from line))

-- digits as one number, the first the highest
abbrev pub folded_of : List ℕ → ℕ
folded_of [] = 0
folded_of (v ∷ l) = v * 16 ^ length l + folded_of l
