-- `layout::row::rows_at` meets its contract: one row more at each turn.
use Rattle.std.proofs.Common.{◌≡◌, ◌<◌, min, arith}
use lib.ListN.{length-take, length-replicate}
use Rattle.layout.proofs.Rows.{filled_none, filled-turn, filled-array}
use Rattle.layout.proofs.row.rows_at.Goals as goal

pub loop-i-init : goal.loop-i-init
loop-i-init g c =
    let few : c.min.result ≡ min g.row.N c.args.n = omega arith in
    rw few (filled_none _ _ _ _ _ _ _ (omega arith) (g.met.T.Row.blank _ c.default-rows.ensures))

pub loop-i-preserved : goal.loop-i-preserved
loop-i-preserved g c =
    let inside : c.loop-i.i < min g.row.N c.args.n = omega (arith, simp (length-take, length-replicate) at c.loop-i-test.true) in
    filled-turn _ _ _ _ _ _ _ _ c.loop-i.invariant inside (rw c.BYTES.ensures at c.at.ensures)

pub returns : goal.returns
returns g c =
    let low = simp (length-take, length-replicate) at c.loop-i.auto.i-end in
    let high = simp (length-take, length-replicate) at c.loop-i-test.false in
    let all : c.loop-i.i ≡ min g.row.N c.args.n = omega arith in
    let few : c.min.result ≡ min g.row.N c.args.n = omega arith in
    rw few (filled-array _ _ _ _ _ _ _ _ (rw all at c.loop-i.invariant) (g.met.T.Row.blank _ c.default-rows.ensures))
