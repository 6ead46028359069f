-- `answer::rows::put_row` meets its contract: three numbers, each where the one before ends.
use Rattle.std.proofs.Common.{◌+◌, ap, sym, arith}
use Rattle.answer.proofs.Stretches.{row-length, row_written}
use Rattle.answer.proofs.rows.put_row.Goals as goal

pub returns-clause-value : goal.returns-clause-value
returns-clause-value c =
    let a = c.args in ap (λ n. a.at + n) (sym (row-length a.start a.end a.value))

pub returns-clause-out_after : goal.returns-clause-out_after
returns-clause-out_after c =
    let a = c.args in
    row_written a.start a.end a.value _ _ c.put_number.ensures c.put_number-2.ensures c.put_number-3.ensures
    (omega arith)
    (omega arith)
