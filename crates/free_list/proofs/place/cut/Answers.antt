-- `free_list::place::cut` meets its contract: its three ways are those of the list's cut.
use borrow.Author.Rules.{rules}
use borrow.Author.Tests.{eqb-true, eqb-false}
use mathlib.Core.Path.{◌≡◌, sym, ap, ◌∙◌}
use native.Mathlib.Omega.{arith}
use Prim.Native.Nat.{ℕ, ◌*◌, ◌≤◌}
use lib.ListN.{length, set}
use Rattle.units.specs.Limits.{volume_max, segments_max, listed_max}
use Rattle.segmentation.specs.declared.VolumeSegment.{VolumeSegment}
use Rattle.segmentation.proofs.Capacity.{capacity-fits}
use Rattle.free_list.specs.Cut.{stretch_of}
use Rattle.free_list.specs.Granted.{left_in}
use Rattle.free_list.proofs.Places.{book-start, book-flat, book-full, book-two}
use Rattle.free_list.proofs.place.cut.Goals as goal
use Rattle.free_list.proofs.place.cut.Goals.{Start}

size : (c : Start) → length c.args.segments.now ≡ listed_max
size c = search rules

-- what a store of another segment at the place leaves
stored : (c : Start) (off : ℕ) (x y : VolumeSegment) → x ≡ y
    → left_in (set c.args.segments.now c.args.place x) c.args.count.now off x.volume.0
    ≡ left_in (set c.args.segments.now c.args.place y) c.args.count.now off y.volume.0
stored c off x y e = ap (λ (s : VolumeSegment). left_in (set c.args.segments.now c.args.place s) c.args.count.now off s.volume.0) e

-- what a stretch carries
carried : (c : Start) (x : VolumeSegment) (a b : ℕ) → x ≡ stretch_of c.args.rates.now a b → x.volume.0 ≤ segments_max * volume_max
carried c x a b e = rw e (omega (arith, capacity-fits _ a b c.requires.in_turn, c.requires.few))

pub returns-then-eq : goal.returns-then-eq
returns-then-eq c =
    let a = (goal.at.returns-then-eq c).Start in
    stored a _ _ _ c.rest-kept.ensures ∙ book-start _ _ _ _ _ _ _ (size a) c.requires.inside (eqb-true _ _ (sym c.eq.ensures ∙ c.if-eq.true))

pub returns-then-eq-2 : goal.returns-then-eq-2
returns-then-eq-2 c =
    let a = (goal.at.returns-then-eq-2 c).Start in
    stored a _ _ _ c.stretch-before.ensures
    ∙ book-flat _ _ _ _ _ _ _ (size a) c.requires.inside (eqb-false _ _ (sym c.eq.ensures ∙ c.if-eq.false)) (eqb-true _ _ (sym c.eq-2.ensures ∙ c.if-eq-2.true))

pub returns-then-count-ge-COUNT_MAX : goal.returns-then-count-ge-COUNT_MAX
returns-then-count-ge-COUNT_MAX c =
    let a = (goal.at.returns-then-count-ge-COUNT_MAX c).Start in
    book-full _ _ _ _ _ _ _ (size a) c.requires.inside (eqb-false _ _ (sym c.eq.ensures ∙ c.if-eq.false)) (eqb-false _ _ (sym c.eq-2.ensures ∙ c.if-eq-2.false)) c.if-count-ge-COUNT_MAX.true

pub overflow_add-result : goal.overflow_add-result
overflow_add-result c =
    let a = (goal.at.overflow_add-result c).Start in
    record { fits = omega (arith, carried a _ _ _ c.stretch-before.ensures, carried a _ _ _ c.stretch-after.ensures) }

pub returns : goal.returns
returns c =
    let a = (goal.at.returns c).Start in
    rw (c.insert.ensures, c.stretch-before.ensures, c.stretch-after.ensures)
    (book-two _ _ _ _ _ _ _ (size a) c.requires.inside (eqb-false _ _ (sym c.eq.ensures ∙ c.if-eq.false)) (eqb-false _ _ (sym c.eq-2.ensures ∙ c.if-eq-2.false)) c.if-count-ge-COUNT_MAX.false)
