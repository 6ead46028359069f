-- 02, R-4, R-6 and R-7: what an opening chooses and a record names. Each choice that a later request adds is one more line.
use Rattle.std.specs.Prelude.{ℕ, Bool}
use Rattle.units.specs.Limits.{one_or_two}
use Rattle.units.specs.Logic.{both}
use Rattle.units.specs.Strict.{strict_ok}
use Rattle.poly_seg.specs.declared.Choices.{Choices}

-- what 01 has, equal to the Rust
abbrev pub ported : Choices
ported = record { mode = record { 0 = 1 }; rule = record { 0 = 1 }; strict = record { 0 = 0 } }

-- a refused opening's
abbrev pub unchosen : Choices
unchosen = record { mode = record { 0 = 0 }; rule = record { 0 = 0 }; strict = record { 0 = 0 } }

-- refusal 2, before all else: a mode or a rule other than 1 or 2, a flag other than 0 or 1
unfoldable pub choices_ok : Choices → Bool
choices_ok h = both (one_or_two h.mode.0) (both (one_or_two h.rule.0) (strict_ok h.strict.0))

-- the choices with the flag at a number, all else as it is
abbrev pub flagging : ℕ → Choices → Choices
flagging n h = record { mode = h.mode; rule = h.rule; strict = record { 0 = n } }
