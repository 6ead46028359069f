-- A digit's value: that of a decimal digit, that of a letter, and below 16.
use Rattle.std.proofs.Common.{◌≡◌, ℕ, ◌-◌, ◌<◌, ◌≤◌, arith}
use Rattle.std.proofs.lemmas.Bool.Decides.{nat_tests}
use Rattle.units.specs.Logic.{both, pick}
use Rattle.hexadecimal.specs.Digits.{within, is_digit, value_of}

pub value-decimal : (x : ℕ) → 48 ≤ x → x ≤ 57 → value_of x ≡ x - 48
unfolding value_of is_digit both
value-decimal x h k = grind (arith, nat_tests)

pub value-letter : (x : ℕ) → 97 ≤ x → x ≤ 102 → value_of x ≡ x - 87
unfolding value_of is_digit both
value-letter x h k = grind (arith, nat_tests)

pub value-small : (x : ℕ) → value_of x < 16
unfolding value_of is_digit both
value-small x = grind (arith, nat_tests)
