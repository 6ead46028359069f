-- `answer::put_list` meets its contract: a refusal's number alone; after 0, the count and the rows.
use native.Mathlib.Omega.{arith}
use Rattle.answer.proofs.Stored.{list-number, list-rows}
use Rattle.answer.proofs.put_list.Goals as goal

pub returns-then-number-ne0 : goal.returns-then-number-ne0
returns-then-number-ne0 g c = list-number _ _ _ _ c.if-number-ne0.true c.put_number.ensures

pub returns : goal.returns
returns g c =
    list-rows _ _ _ _ c.if-number-ne0.false c.put_byte.ensures c.put_byte-2.ensures
    (record { value = c.put_rows-at.ensures.value; out_after = c.put_rows-at.ensures.out_after })
    c.put_line_end.ensures
    (omega arith)
    (omega arith)
    (omega arith)
    (omega arith)
