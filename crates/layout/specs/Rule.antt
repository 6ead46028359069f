-- 02, R-4: frames 21, 22 and 23 are 01, 02 and 03 with a rule byte added last; 01, 02 and 03 open with rule 1.
use Rattle.std.specs.Prelude.{ℕ, ◌+◌, Bool, List, leb}
use Rattle.units.specs.Logic.{pick}
use Rattle.segmentation.specs.declared.Rule.{Rule}
use Rattle.hexadecimal.specs.Digits.{byte_at}

-- the kinds that state a rule; 02 writes them in hexadecimal: 21 is 33
unfoldable pub ruled : List ℕ → Bool
ruled line = leb 33 (byte_at line 0)

-- in bytes: the length of an opening whose segments end here
unfoldable pub length_of : List ℕ → ℕ → ℕ
length_of line end = pick (ruled line) (end + 1) end

-- and its rule
unfoldable pub rule_at : List ℕ → ℕ → Rule
rule_at line end = record { 0 = pick (ruled line) (byte_at line end) 1 }
