-- `answer::put_room` meets its contract: a refusal's number alone; after 0, the room.
use native.Mathlib.Omega.{arith}
use Rattle.answer.proofs.Stored.{room-number, room-stored}
use Rattle.answer.proofs.put_room.Goals as goal

pub returns-then-number-ne0 : goal.returns-then-number-ne0
returns-then-number-ne0 c =
    room-number _ _ _ c.if-number-ne0.true c.put_number.ensures

pub returns : goal.returns
returns c =
    room-stored _ _ _ c.if-number-ne0.false c.put_byte.ensures c.put_number-2.ensures c.put_line_end.ensures
    (omega arith)
    (omega arith)
    (omega arith)
