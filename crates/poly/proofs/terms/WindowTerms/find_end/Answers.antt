-- `poly::terms::WindowTerms::find_end` meets its contract: each case of the definition is a return.
use mathlib.Core.Bool.{Bool, true, false}
use mathlib.Core.Path.{◌≡◌, sym}
use Prim.Native.Nat.{ℕ, ◌≤◌, ◌<◌}
use native.Mathlib.Omega.{arith}
use lib.IntN.{ℤ, pos, nat_abs}
use lib.Signed.{lt_z}
use mir.Syntax.{w64}
use mir.Val.{to_z}
use Rattle.std.proofs.lemmas.Int.{to_z_pos}
use Rattle.units.specs.declared.Interval.{Interval}
use Rattle.units.proofs.Compare.{lt-yes, lt-not, le-yes, le-not}
use Rattle.poly.specs.declared.terms.Terms.{Terms}
use Rattle.poly.specs.Poly.{step_max}
use Rattle.poly.specs.Search.{area_from}
use Rattle.poly.specs.Granted.{capacity_by, Ranged}
use Rattle.poly.proofs.Back.{rd, back}
use Rattle.poly.proofs.Ends.{find-early, find-late, find-short, find-found}
use Rattle.poly.proofs.Near.{cap-fits, cap-bound, area-fits}
use Rattle.poly.proofs.terms.WindowTerms.find_end.Goals as goal
use Rattle.poly.proofs.terms.WindowTerms.find_end.Goals.{then-lt-via-then-lt, then-lt-via-else-lt+then-le}

-- the date is inside the segment, and so inside the window
module _ (s : Terms) (w segment : Interval) (h : Ranged s w) (at : (w.start.0 ≤ segment.start.0) × (segment.end.0 ≤ w.end.0))
    (size x : ℕ) (small : size ≤ step_max) (from : segment.start.0 ≤ x) (before-end : x < segment.end.0)
    (known : ℤ) (ek : known ≡ capacity_by s x)
  where
    window-from : w.start.0 ≤ x
    window-from = omega (arith, from, at.0)

    window-to : x ≤ w.end.0
    window-to = omega (arith, before-end, at.1)

    end-from : w.start.0 ≤ segment.end.0
    end-from = omega (arith, window-from, before-end)

    -- the capacity to the date and the size, as the machine has them
    known-back : rd known ≡ capacity_by s x
    known-back = back ek (cap-fits _ _ h _ window-from window-to)

    known-bound : nat_abs (rd known) ≤ step_max
    known-bound = rw known-back (cap-bound _ _ h _ window-from window-to)

    size_back : to_z w64 size ≡ pos size
    size_back = to_z_pos w64 size (omega (arith, small))

    abbrev sent : ℕ → ℤ
    sent = area_from (capacity_by s) (capacity_by s x)

    -- the test whether the segment holds too little
    module _ (all : ℤ) (ea : all ≡ area_from (capacity_by s) (rd known) segment.end.0) where
      all_back : rd all ≡ sent segment.end.0
      all_back = rw known-back at (back ea (area-fits _ _ h _ end-from at.1 _ known-bound))

      test : (u : Bool) → lt_z (rd all) (to_z w64 size) ≡ u → lt_z (sent segment.end.0) (pos size) ≡ u
      test u e = rw (all_back, size_back) at e

pub returns-then-lt : goal.returns-then-lt
returns-then-lt c =
    elim c.then-lt.branch [
      | then-lt-via-then-lt w ↦ sym (find-early _ _ _ _ _ (lt-yes _ _ _ c.lt.ensures w.if-lt.true))
      | then-lt-via-else-lt+then-le w ↦ sym (find-late _ _ _ _ _ (le-yes _ _ _ w.le.ensures w.if-le.true))
    ]

pub returns-then-all-target : goal.returns-then-all-target
returns-then-all-target c =
    let from : c.args.segment.start.0 ≤ c.args.from.0 = lt-not _ _ _ c.lt.ensures c.if-lt.false in
    let before-end : c.args.from.0 < c.args.segment.end.0 = le-not _ _ _ c.le.ensures c.if-le.false in
    sym
    (find-short _ _ _ _ _ from before-end
    (test _ _ c.args.segment c.args.self.ranged c.requires.inside _ _ c.requires.small from before-end _ c.capacity-known.ensures.value
    _ c.area-all.ensures true c.if-all-target.true))

pub returns : goal.returns
returns c =
    let from : c.args.segment.start.0 ≤ c.args.from.0 = lt-not _ _ _ c.lt.ensures c.if-lt.false in
    let before-end : c.args.from.0 < c.args.segment.end.0 = le-not _ _ _ c.le.ensures c.if-le.false in
    find-found _ _ _ _ _ from before-end
    (test _ _ c.args.segment c.args.self.ranged c.requires.inside _ _ c.requires.small from before-end _ c.capacity-known.ensures.value
    _ c.area-all.ensures false c.if-all-target.false)
    c.halve.result
    (rw (
      known-back _ _ c.args.segment c.args.self.ranged c.requires.inside _ _ c.requires.small from before-end _ c.capacity-known.ensures.value,
      size_back _ _ c.args.segment c.args.self.ranged c.requires.inside _ _ c.requires.small from before-end _ c.capacity-known.ensures.value,
    ) at
    c.halve.ensures)
