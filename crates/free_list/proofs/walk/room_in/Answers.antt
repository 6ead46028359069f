-- `walk::room_in` meets its contract.
use Prim.Native.Nat.{◌<◌}
use mathlib.Core.Path.{◌≡◌}
use mathlib.Core.List.{◌∷◌}
use native.Mathlib.Omega.{arith}
use lib.ListN.{length, drop, get_or}
use Rattle.std.specs.Prelude.{Some, None}
use Rattle.units.proofs.Loop.{at-whole, item_here}
use Rattle.contact.specs.Segments.{zero_volume}
use Rattle.free_list.proofs.WalkLaws.{Answer, walk_turn, walk_end, walk-room, walk_first, hi-is, hi_small, first-ok, stands-lt, next-lt, after, seg-at}
use Rattle.free_list.proofs.walk.room_in.Goals as goal
use Rattle.free_list.proofs.walk.room_in.Goals.{Start, After-next, After-turn}

heads : (c : Start) → c.args.rates.now ≡ get_or c.args.rates.now 0 zero_volume ∷ drop 1 c.args.rates.now
heads c = at-whole c.args.rates.now 0 zero_volume c.requires.some

pub begin-w-requires : goal.begin-w-requires
begin-w-requires c = (first-ok c.args.rates.now _ _ _ _ (heads (goal.at.begin-w-requires c).Start) c.requires.windowed).0

pub loop-g-init : goal.loop-g-init
loop-g-init c = walk_first c.args.rates.now _ _ _ _ _ _ _ (heads (goal.at.loop-g-init c).Start) c.requires.windowed c.begin-w.ensures

read-lt : (c : After-next) → c.next.result < length c.args.rates.now
read-lt c = rw c.next.ensures (next-lt _ _ (stands-lt _ _ c.loop-g.invariant.stands))

pub bounds-rates-next : goal.bounds-rates-next
bounds-rates-next c = read-lt (goal.at.bounds-rates-next c).After-next

pub offset_bounds-rates-next : goal.offset_bounds-rates-next
offset_bounds-rates-next c = record { fits = omega (arith, read-lt (goal.at.offset_bounds-rates-next c).After-next, c.requires.few) }

pub turn-requires-clause-kept : goal.turn-requires-clause-kept
turn-requires-clause-kept c = seg-at c.args.rates.now _ _ _ (read-lt (goal.at.turn-requires-clause-kept c).After-next) c.requires.windowed.run

pub turn-requires-clause-dated : goal.turn-requires-clause-dated
turn-requires-clause-dated c = hi_small c.args.rates.now _ _ _ _ (heads (goal.at.turn-requires-clause-dated c).Start) c.requires.windowed

-- what the turn answered
answer : (c : After-turn) → Answer c.args.rates.now c.args.free.now c.args.window.start.0 c.args.window.end.0 (length c.args.free.now) c.loop-g.w c.turn.result
answer c =
    let k = c.in-Some.ensures.lookup in
    rw c.turn.ensures
    (walk_turn c.args.rates.now c.args.free.now _ _ _ _ c.loop-g.invariant k.3.0 _ _ (item_here _ _ _ k.3.0 k.1) c.requires.few
    (hi-is c.args.rates.now _ _ _ _ (at-whole c.args.rates.now 0 zero_volume c.requires.some) c.requires.windowed)
    (λ h. rw c.next.ensures (after c.args.rates.now c.loop-g.w.place zero_volume h)))

pub returns-in_err-w : goal.returns-in_err-w
returns-in_err-w c =
    let t : Answer c.args.rates.now c.args.free.now c.args.window.start.0 c.args.window.end.0 (length c.args.free.now) c.loop-g.w None = rw c.in_err-w.was at (answer (goal.at.returns-in_err-w c).After-turn) in
    rw (c.from_residual.ensures, t)

pub loop-g-smaller : goal.loop-g-smaller
loop-g-smaller c =
    let t : Answer c.args.rates.now c.args.free.now c.args.window.start.0 c.args.window.end.0 (length c.args.free.now) c.loop-g.w (Some c.in_ok-w.w) = rw c.in_ok-w.was at (answer (goal.at.loop-g-smaller c).After-turn) in
    t.1

pub loop-g-preserved : goal.loop-g-preserved
loop-g-preserved c =
    let t : Answer c.args.rates.now c.args.free.now c.args.window.start.0 c.args.window.end.0 (length c.args.free.now) c.loop-g.w (Some c.in_ok-w.w) = rw c.in_ok-w.was at (answer (goal.at.loop-g-preserved c).After-turn) in
    t.0

pub returns : goal.returns
returns c =
    let q = c.loop-g.invariant in
    let all = c.in_default.ensures.lookup.3 in
    rw (walk_end _ _ _ _ _ _ q all, walk-room _ _ _ _ _ _ q all)
