-- What a derived comparison of two numbers tells, and one that turned out false.
use Rattle.std.proofs.Common.{ℕ, ◌<◌, ◌≤◌, ◌≡◌, Bool, true, false, arith}
use Rattle.std.proofs.lemmas.Bool.Decides.{nat_tests}
use Rattle.std.specs.Ordering.{nat_cmp, is_le, is_lt}
use Rattle.std.proofs.lemmas.Map.Keys.{le_from_is_le, ge_from_not_lt}
use mathlib.Core.Path.{sym, ◌∙◌}

module _ (a b : ℕ) (r : Bool) where
  pub le-yes : r ≡ is_le (nat_cmp a b) → r ≡ true → a ≤ b
  le-yes e h = le_from_is_le a b (sym e ∙ h)

  pub le-not : r ≡ is_le (nat_cmp a b) → r ≡ false → b < a
  le-not e h = let t : is_le (nat_cmp a b) ≡ false = sym e ∙ h in grind (arith, nat_tests)

  pub lt-yes : r ≡ is_lt (nat_cmp a b) → r ≡ true → a < b
  lt-yes e h = let t : is_lt (nat_cmp a b) ≡ true = sym e ∙ h in grind (arith, nat_tests)

  pub lt-not : r ≡ is_lt (nat_cmp a b) → r ≡ false → b ≤ a
  lt-not e h = ge_from_not_lt a b (sym e ∙ h)
