-- 02, R-7: what an opening chooses and a record names. Each choice that a later request adds is one more line.
use Rattle.std.specs.Prelude.{ℕ, Bool}
use Rattle.units.specs.Strict.{strict_ok}
use Rattle.legacy.specs.declared.Choices.{Choices}

-- what 01 has, equal to the Rust
abbrev pub ported : Choices
ported = record { strict = record { 0 = 0 } }

-- a refused opening's
abbrev pub unchosen : Choices
unchosen = record { strict = record { 0 = 0 } }

-- refusal 2, before all else: a flag other than 0 or 1
unfoldable pub choices_ok : Choices → Bool
choices_ok h = strict_ok h.strict.0

-- the choices with the flag at a number
abbrev pub flagging : ℕ → Choices → Choices
flagging n h = record { strict = record { 0 = n } }
