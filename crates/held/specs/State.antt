-- 01, "The trace program": one record of any manager is held, or none; a refused opening keeps the old record.
use Rattle.std.specs.Prelude.{ℕ, eqb}
use Rattle.units.specs.Logic.{pick}
use Rattle.held.specs.declared.Held.{Held}
use Rattle.held.specs.declared.Held.TheVariants.{Nothing}
use Rattle.held.specs.declared.Done.{Done}

-- before the first opening
abbrev pub nothing : Held
nothing = Nothing

-- the number, and what was held
abbrev pub refused_call : Held → ℕ → Done
refused_call h n = record { number = n; held = h }

-- what a call that is done leaves is held from then on; a refused call changes nothing
unfoldable pub kept : Held → ℕ → Held → Done
kept h n next = pick (eqb n 0) (record { number = 0; held = next }) (refused_call h n)
