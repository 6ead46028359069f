-- `answer::put_offer` meets its contract: a refusal's number alone; after 0, the four dates.
use native.Mathlib.Omega.{arith}
use Rattle.answer.proofs.Stored.{offer-number, offer-dates}
use Rattle.answer.proofs.put_offer.Goals as goal

pub returns-then-offer-ne0 : goal.returns-then-offer-ne0
returns-then-offer-ne0 c =
    offer-number _ c.args.offer c.if-offer-ne0.true c.put_number.ensures

pub returns : goal.returns
returns c =
    offer-dates _ c.args.offer c.if-offer-ne0.false c.put_byte.ensures c.put_dates.ensures c.put_line_end.ensures
    (omega arith)
    (omega arith)
    (omega arith)
