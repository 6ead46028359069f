-- A refusal has a number, which is not 0.
use mathlib.Core.Path.{◌≡◌}
use Rattle.std.specs.Prelude.{Ok, Err}
use Rattle.units.specs.declared.refusal.Refusal.{Refusal}
use Rattle.units.specs.Refusal.{number_of}
use Rattle.units.proofs.Refusals.{told-once}

pub refused-some : (e : Refusal) → number_of e ≡ 0 → ⊥
refused-some e h = let same : Err e ≡ Ok tt = told-once (Err e) (Ok tt) h in cc
