-- What holds of a date of the window of terms that are inside their range: its distance, its capacity and the capacity from another date fit.
use Prim.Native.Nat.{ℕ, ◌≤◌}
use native.Mathlib.Omega.{arith}
use lib.IntN.{ℤ, pos, nat_abs, ◌-ℤ◌}
use mir.Syntax.{w64}
use mir.Val.{SFits}
use Rattle.units.specs.declared.Interval.{Interval}
use Rattle.poly.specs.declared.terms.Terms.{Terms}
use Rattle.poly.specs.Poly.{step_max}
use Rattle.poly.specs.Search.{area_from}
use Rattle.poly.specs.Granted.{capacity_by, InRangeOf, farthest, Ranged}
use Rattle.poly.proofs.Abs.{abs_diff, sfits, fits_sub}
use Rattle.poly.proofs.Steps.{range_mono, horner-bound}

module _ (t : Terms) (w : Interval) (h : Ranged t w) (y : ℕ) (from : w.start.0 ≤ y) (to : y ≤ w.end.0) where
  pub distance-fits : SFits w64 (pos y -ℤ pos t.offset.0)
  distance-fits = fits_sub (pos y) (pos t.offset.0) (omega (arith, h.date)) (omega (arith, h.offset))

  -- the range rule holds at the date's own distance
  pub range_at : InRangeOf t (nat_abs (pos y -ℤ pos t.offset.0))
  range_at =
      range_mono _ _ _ _
      (abs_diff y t.offset.0 (farthest t w) (omega arith) (omega arith))
      h.range

  pub cap-bound : nat_abs (capacity_by t y) ≤ step_max
  unfolding capacity_by
  cap-bound = horner-bound _ _ _ _ _ range_at

  pub cap-fits : SFits w64 (capacity_by t y)
  cap-fits = sfits _ (omega (arith, cap-bound))

  pub area-fits : (known : ℤ) → nat_abs known ≤ step_max → SFits w64 (area_from (capacity_by t) known y)
  unfolding area_from
  area-fits known hk = fits_sub (capacity_by t y) known cap-bound hk
