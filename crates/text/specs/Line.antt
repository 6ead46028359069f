-- 01, "The trace program", Answer: the line that an answer is written into.
use Rattle.std.specs.Prelude.{ℕ, ◌+◌, ◌*◌, List}
use Rattle.std.proofs.lemmas.List.Edits.{sets}
use Rattle.units.specs.Limits.{listed_max}

-- the longest answer is a number, a count and 64 segments of three numbers, two digits a byte, and the line end
abbrev pub room : ℕ
room = 2 * (2 + listed_max * 24) + 1

-- the line with the text stored from a place on, one byte after the other, and every other byte as it was
unfoldable pub written : List ℕ → ℕ → List ℕ → List ℕ
written line at text = sets line at text
