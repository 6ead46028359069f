-- What an inner function computes on the way; no promise of a call of 01 rests on it.
use Rattle.std.specs.Prelude.{ℕ, eqb}
use Rattle.units.specs.declared.TxData.{TxData}
use Rattle.units.specs.declared.Offer.{Offer}
use Rattle.units.specs.Logic.{unless, pick}
use Rattle.units.specs.Answer.{offers}
use Rattle.units.specs.Strict.{forbids}

-- a booking's refusal by the flag and what the dry run answers: 2, 9, then 17; 0 is none
unfoldable pub refusal_of : ℕ → Offer → TxData → ℕ
refusal_of strict o d = pick (eqb o.number 2) 2 (unless (offers o d) 9 (pick (forbids strict d.send) 17 0))
