-- RULES, Opening 1 to 4 and Booking 1, orders on one line: tests with their numbers, and the number beside the first test that fails.
use Rattle.std.specs.Prelude.{ℕ, Bool, List, [], ◌∷◌}
use Rattle.units.specs.Logic.{pick}

pub record Test : Type 0 where
  pub number : ℕ
  pub holds : Bool

infix 70 ◌if-not◌
abbrev pub ◌if-not◌ : ℕ → Bool → Test
n if-not b = record { number = n; holds = b }

-- and n where all hold
unfoldable pub first_failed : List Test → ℕ → ℕ
first_failed [] n = n
first_failed (t ∷ l) n = pick t.holds (first_failed l n) t.number
