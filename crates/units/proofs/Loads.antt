-- What the tests of a bundle and of an asked time tell.
use Prim.Native.Nat.{◌≤◌}
use mathlib.Core.Bool.{true}
use mathlib.Core.Path.{◌≡◌}
use borrow.Author.Tests.{leb-true}
use Rattle.units.specs.declared.Date.{Date}
use Rattle.units.specs.declared.Bundle.{Bundle}
use Rattle.units.specs.Limits.{date_max, volume_max, priority_max, load_ok, bundle_ok}
use Rattle.units.proofs.Logic.{both-fst, both-snd}

pub record Load (b : Bundle) : Type 0 where
  pub some : 1 ≤ b.size.0
  pub size : b.size.0 ≤ volume_max
  pub priority : b.priority.0 ≤ priority_max

pub load : (b : Bundle) → load_ok b ≡ true → Load b
unfolding load_ok
load b e =
    let rest = both-snd _ _ e in
    record { some = leb-true _ _ (both-fst _ _ e); size = leb-true _ _ (both-fst _ _ rest); priority = leb-true _ _ (both-snd _ _ rest) }

module _ (at : Date) (b : Bundle) (e : bundle_ok at b ≡ true) where
  pub asked : at.0 ≤ date_max
  unfolding bundle_ok
  asked = leb-true _ _ (both-fst _ _ e)

  pub asked-load : load_ok b ≡ true
  unfolding bundle_ok
  asked-load = both-snd _ _ e
