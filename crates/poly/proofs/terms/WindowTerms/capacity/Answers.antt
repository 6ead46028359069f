-- `poly::terms::WindowTerms::capacity` meets its contract: the distance is read back as it is.
use mathlib.Core.Path.{◌≡◌}
use Prim.Native.Nat.{ℕ, ◌≤◌}
use native.Mathlib.Omega.{arith}
use lib.IntN.{ℤ, pos, nat_abs, ◌*ℤ◌, ◌-ℤ◌}
use mir.Syntax.{w64}
use mir.Val.{to_z}
use Rattle.std.proofs.lemmas.Int.{to_z_pos}
use Rattle.units.specs.declared.Interval.{Interval}
use Rattle.poly.specs.declared.terms.Terms.{Terms}
use Rattle.poly.specs.Poly.{step_max, coefficient, horner_of}
use Rattle.poly.specs.Granted.{capacity_by, InRangeOf, Ranged}
use Rattle.poly.proofs.Back.{rd, back}
use Rattle.poly.proofs.Near.{distance-fits, range_at, cap-fits, cap-bound}
use Rattle.poly.proofs.terms.WindowTerms.capacity.Goals as goal

module _ (s : Terms) (w : Interval) (x : ℕ) (h : Ranged s w) (at : (w.start.0 ≤ x) × (x ≤ w.end.0)) where
  -- the distance, as the machine has it
  apart : to_z w64 x -ℤ to_z w64 s.offset.0 ≡ pos x -ℤ pos s.offset.0
  apart = rw (to_z_pos w64 x (omega (arith, at.1, h.date)), to_z_pos w64 s.offset.0 (omega (arith, h.offset)))

  apart-back : rd (to_z w64 x -ℤ to_z w64 s.offset.0) ≡ pos x -ℤ pos s.offset.0
  apart-back = back apart (distance-fits _ _ h _ at.0 at.1)

  asks : InRangeOf s (nat_abs (rd (to_z w64 x -ℤ to_z w64 s.offset.0)))
  asks = rw apart-back (range_at _ _ h _ at.0 at.1)

  module _ (r : ℤ)
      (er : r ≡ horner_of (coefficient s.each 0) (coefficient s.each 1) (coefficient s.each 2) (coefficient s.each 3) (rd (to_z w64 x -ℤ to_z w64 s.offset.0)) *ℤ rd (to_z w64 x -ℤ to_z w64 s.offset.0))
    where
      value : r ≡ capacity_by s x
      unfolding capacity_by
      value = rw apart-back at er

      is : rd r ≡ capacity_by s x
      is = back value (cap-fits _ _ h _ at.0 at.1)

      small : nat_abs (rd r) ≤ step_max
      small = rw is (cap-bound _ _ h _ at.0 at.1)

pub horner-requires : goal.horner-requires
horner-requires c = asks _ _ _ c.args.self.ranged c.requires

pub returns-clause-value : goal.returns-clause-value
returns-clause-value c = is _ _ _ c.args.self.ranged c.requires _ c.horner.ensures

pub returns-clause-small : goal.returns-clause-small
returns-clause-small c = small _ _ _ c.args.self.ranged c.requires _ c.horner.ensures
