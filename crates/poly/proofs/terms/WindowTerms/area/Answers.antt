-- `poly::terms::WindowTerms::area` meets its contract.
use mathlib.Core.Path.{◌≡◌}
use Prim.Native.Nat.{ℕ, ◌≤◌}
use lib.IntN.{ℤ, nat_abs, ◌-ℤ◌}
use mir.Syntax.{w64}
use mir.Val.{SFits}
use mir.Facts.{to_z-of_z}
use Rattle.units.specs.declared.Interval.{Interval}
use Rattle.poly.specs.declared.terms.Terms.{Terms}
use Rattle.poly.specs.Poly.{step_max}
use Rattle.poly.specs.Search.{area_from}
use Rattle.poly.specs.Granted.{capacity_by, Ranged}
use Rattle.poly.proofs.Back.{rd, back}
use Rattle.poly.proofs.Near.{cap-fits, area-fits}
use Rattle.poly.proofs.terms.WindowTerms.area.Goals as goal

module _ (s : Terms) (w : Interval) (h : Ranged s w) (y : ℕ) (at : (w.start.0 ≤ y) × (y ≤ w.end.0))
    (known : ℤ) (small : nat_abs known ≤ step_max) (fits : SFits w64 known) (c : ℤ) (ec : c ≡ capacity_by s y)
  where
    is : rd c -ℤ rd known ≡ area_from (capacity_by s) known y
    unfolding area_from
    is = rw (back ec (cap-fits _ _ h _ at.0 at.1), to_z-of_z fits)

    read : rd (rd c -ℤ rd known) ≡ area_from (capacity_by s) known y
    read = back is (area-fits _ _ h _ at.0 at.1 _ small)

pub returns : goal.returns
returns c = read _ _ c.args.self.ranged _ c.requires.inside _ c.requires.small c.ranges.known _ c.capacity.ensures.value
