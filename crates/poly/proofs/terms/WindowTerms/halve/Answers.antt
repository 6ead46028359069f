-- `poly::terms::WindowTerms::halve` meets its contract: each test moves one end of what is left to halve.
use mathlib.Core.Path.{◌≡◌, sym}
use mathlib.Core.Bool.{Bool, true, false}
use Prim.Native.Nat.{ℕ, ◌+◌, ◌-◌, ◌≤◌, ◌<◌}
use native.Mathlib.Omega.{arith}
use lib.IntN.{ℤ, nat_abs}
use lib.Signed.{lt_z}
use mir.Syntax.{w64}
use mir.Val.{SFits}
use mir.Facts.{to_z-of_z}
use Rattle.units.specs.declared.Interval.{Interval}
use Rattle.poly.specs.declared.terms.Terms.{Terms}
use Rattle.poly.specs.Poly.{step_max}
use Rattle.poly.specs.Search.{area_from, middle, halve_of}
use Rattle.poly.specs.Granted.{capacity_by, Ranged}
use Rattle.poly.proofs.Back.{rd, back}
use Rattle.poly.proofs.Halving.{Left, left_end, left_up, left_down, left-hit}
use Rattle.poly.proofs.Near.{area-fits}
use Rattle.poly.proofs.terms.WindowTerms.halve.Goals as goal

module _ (s : Terms) (w : Interval) (h : Ranged s w) (from end : ℕ) (at : (w.start.0 ≤ from) × (end ≤ w.end.0) × (from ≤ end))
    (known target : ℤ) (small : nat_abs known ≤ step_max) (fk : SFits w64 known) (ft : SFits w64 target)
    (low top : ℕ) (now : Left (area_from (capacity_by s) (rd known)) (rd target) from (end + 1) low top)
  where
    abbrev area : ℕ → ℤ
    area = area_from (capacity_by s) (rd known)

    -- what is halved to, over the numbers that were given
    read : {r : ℕ} → halve_of (end + 1 - from) area (rd target) from (end + 1) ≡ r
        → r ≡ halve_of (end + 1 - from) (area_from (capacity_by s) known) target from (end + 1)
    read e = sym (rw (to_z-of_z fk, to_z-of_z ft) at e)

    -- nothing is left
    none-left : top ≤ low → low ≡ halve_of (end + 1 - from) (area_from (capacity_by s) known) target from (end + 1)
    none-left t = read (left_end _ _ _ _ _ _ now t)

    -- the area at the middle, a date of the window, is read back as it is
    module _ (lt : low < top) (a : ℤ) (ea : a ≡ area (middle low top)) where
      is : rd a ≡ area (middle low top)
      is = back ea (area-fits _ _ h _ (omega (arith, now.from)) (omega (arith, now.to)) _ (rw (to_z-of_z fk) small))

      module _ (u : Bool) where
        short : lt_z (rd a) (rd target) ≡ u → lt_z (area (middle low top)) (rd target) ≡ u
        short e = rw is at e

        long : lt_z (rd target) (rd a) ≡ u → lt_z (rd target) (area (middle low top)) ≡ u
        long e = rw is at e

      up : lt_z (rd a) (rd target) ≡ true → Left area (rd target) from (end + 1) (middle low top + 1) top
      up e = left_up _ _ _ _ _ _ now lt (short true e)

      down : lt_z (rd a) (rd target) ≡ false → lt_z (rd target) (rd a) ≡ true → Left area (rd target) from (end + 1) low (middle low top)
      down e g = left_down _ _ _ _ _ _ now lt (short false e) (long true g)

      hit : lt_z (rd a) (rd target) ≡ false → lt_z (rd target) (rd a) ≡ false
          → middle low top ≡ halve_of (end + 1 - from) (area_from (capacity_by s) known) target from (end + 1)
      hit e g = read (left-hit _ _ _ _ _ _ now lt (short false e) (long false g))

pub loop-low-preserved-then-a-target : goal.loop-low-preserved-then-a-target
loop-low-preserved-then-a-target c =
    up _ _ c.args.self.ranged _ _ c.requires.inside _ _ c.requires.small c.ranges.known c.ranges.target _ _ c.loop-low.invariant c.loop-low-test.true
    _ c.area-a.ensures c.if-a-target.true

pub loop-low-preserved : goal.loop-low-preserved
loop-low-preserved c =
    down _ _ c.args.self.ranged _ _ c.requires.inside _ _ c.requires.small c.ranges.known c.ranges.target _ _ c.loop-low.invariant c.loop-low-test.true
    _ c.area-a.ensures c.if-a-target.false c.if-target-a.true

pub returns-else-target-a : goal.returns-else-target-a
returns-else-target-a c =
    hit _ _ c.args.self.ranged _ _ c.requires.inside _ _ c.requires.small c.ranges.known c.ranges.target _ _ c.loop-low.invariant c.loop-low-test.true
    _ c.area-a.ensures c.if-a-target.false c.if-target-a.false

pub returns : goal.returns
returns c =
    none-left _ _ c.args.self.ranged _ _ c.requires.inside _ _ c.requires.small c.ranges.known c.ranges.target _ _ c.loop-low.invariant c.loop-low-test.false
