-- `bookings::place::set` meets its contract: the moves and the writes leave the list that the definition makes.
use borrow.Author.Rules.{rules}
use Prim.Native.Nat.{◌+◌}
use mathlib.Core.Path.{◌≡◌, refl, ◌∙◌}
use mathlib.Core.Logic.{inl, inr}
use native.Mathlib.Omega.{arith}
use lib.ListN.{length}
use Rattle.units.specs.Limits.{listed_max}
use Rattle.bookings.proofs.Places.{EndedIn, BegunIn, found-first, found-in}
use Rattle.bookings.proofs.Setting.{counted-lt, shift-is, set-nothing, set-many, set-some}
use Rattle.bookings.proofs.place.set.Goals as goal
use Rattle.bookings.proofs.place.set.Goals.{After-first_from, then-after-eq1, else-after-eq1, then-before-eq1, else-before-eq1}

-- the list has all its places
size : (c : After-first_from) → length c.args.segments.now ≡ listed_max
size c = search rules

first : (c : After-first_from) → EndedIn c.args.segments.now c.args.count.now c.args.send.start.0 c.first_after-a.result
first c = found-first _ _ _ _ _ (omega (arith, size c, c.requires.few)) c.first_after-a.ensures

last : (c : After-first_from) → BegunIn c.args.segments.now c.args.count.now c.first_after-a.result c.args.send.end.0 (c.first_after-a.result + c.first_from.result)
last c = found-in _ _ _ _ _ _ (first c).low (omega (arith, size c, c.requires.few)) c.first_from.ensures

pub returns-then-a-b : goal.returns-then-a-b
returns-then-a-b c =
    let at = (goal.at.returns-then-a-b c).After-first_from in
    set-nothing _ _ c.args.level.0 _ _ _ _ (size at) c.requires.few c.requires.follows c.requires.unused (first at) (last at) (omega (arith, c.if-a-b.true))

pub returns-then-n-before-gt-COUNT_MAX : goal.returns-then-n-before-gt-COUNT_MAX
returns-then-n-before-gt-COUNT_MAX c =
    let at = (goal.at.returns-then-n-before-gt-COUNT_MAX c).After-first_from in
    set-many _ _ c.args.level.0 _ _ _ _ (size at) c.requires.few c.requires.follows c.requires.unused (first at) (last at)
    (omega (arith, c.if-a-b.false)) _ _ refl refl _ _
    (counted-lt _ _ _ _ c.lt.ensures c.from-before.ensures) (counted-lt _ _ _ _ c.lt-2.ensures c.from-after.ensures) (omega (arith, c.if-n-before-gt-COUNT_MAX.true))

pub returns : goal.returns
returns c =
    let at = (goal.at.returns c).After-first_from in
    set-some _ _ c.args.level.0 _ _ _ _ (size at) c.requires.few c.requires.follows c.requires.unused (first at) (last at)
    (omega (arith, c.if-a-b.false)) _ _ refl refl _ _
    (counted-lt _ _ _ _ c.lt.ensures c.from-before.ensures) (counted-lt _ _ _ _ c.lt-2.ensures c.from-after.ensures) (omega (arith, c.if-n-before-gt-COUNT_MAX.false))
    _ _ _ _ (c.copy_within.ensures.after ∙ shift-is _ _ _ _ _ (last at).low) c.set_between.ensures
    (elim c.if-after-eq1.branch [
      | then-after-eq1 w ↦ inl (w.if-after-eq1.true, w.segments-is)
      | else-after-eq1 w ↦ inr (w.if-after-eq1.false, w.segments-is)
    ])
    (elim c.if-before-eq1.branch [
      | then-before-eq1 w ↦ inl (w.if-before-eq1.true, w.segments-is)
      | else-before-eq1 w ↦ inr (w.if-before-eq1.false, w.segments-is)
    ])
    _ (omega arith)
