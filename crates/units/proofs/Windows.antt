-- What the test of a window tells.
use Prim.Native.Nat.{◌+◌, ◌-◌, ◌<◌, ◌≤◌}
use mathlib.Core.Bool.{true}
use mathlib.Core.Path.{◌≡◌}
use native.Mathlib.Omega.{arith}
use borrow.Author.Tests.{ltb-true, leb-true}
use Rattle.units.specs.declared.Interval.{Interval}
use Rattle.units.specs.Limits.{date_max, length_max, window_ok}
use Rattle.units.proofs.Logic.{both-fst, both-snd}

pub record Window (w : Interval) : Type 0 where
  pub some : w.start.0 < w.end.0
  pub date : w.end.0 ≤ date_max
  pub short : w.end.0 ≤ w.start.0 + length_max

pub window : (w : Interval) → window_ok w ≡ true → Window w
unfolding window_ok
window w e =
    let rest = both-snd _ _ e in
    let some : w.start.0 < w.end.0 = ltb-true _ _ (both-fst _ _ e) in
    let short : w.end.0 - w.start.0 ≤ length_max = leb-true _ _ (both-snd _ _ rest) in
    record { some = some; date = leb-true _ _ (both-fst _ _ rest); short = omega arith }
