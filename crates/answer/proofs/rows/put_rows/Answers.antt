-- `answer::rows::put_rows` meets its contract: each turn adds its row to those before it.
use Rattle.std.proofs.Common.{arith}
use Rattle.answer.proofs.Turns.{none-yet, row-next}
use Rattle.answer.proofs.rows.put_rows.Goals as goal

pub loop-row-init : goal.loop-row-init
loop-row-init g c =
    let none = none-yet g.R.Row.text c.args.rows.now c.args.out.now in
    record { place = none.place; line = none.line; within = omega arith }

pub loop-row-preserved : goal.loop-row-preserved
loop-row-preserved g c =
    let i = c.loop-row.invariant in
    let next = row-next g.R.Row.text _ _ _ c.loop-row-test.true c.row-item.is _ i.place i.line (record { value = c.put-at.ensures.value; out_after = c.put-at.ensures.out_after }) in
    record { place = next.place; line = next.line; within = omega (arith, c.put-at.ensures.three_numbers) }
