-- What an inner function computes on the way; no promise of a call of 01 rests on it.
use Rattle.std.specs.Prelude.{ℕ, Result, Ok, Err}
use Rattle.units.specs.declared.TxData.{TxData}
use Rattle.units.specs.declared.Bundle.{Bundle}
use Rattle.units.specs.declared.Offer.{Offer}
use Rattle.units.specs.declared.refusal.Refusal.{Refusal}
use Rattle.units.specs.Logic.{unless, pick}
use Rattle.units.specs.Limits.{load_ok}
use Rattle.units.specs.Answer.{refused}
use Rattle.units.specs.Refusal.{number_of, told}
use Rattle.legacy.specs.declared.Queue.{Queue}
use Rattle.legacy.specs.declared.Booked.{Booked}

-- the answer of a dry run to what was found
abbrev pub offer_by : Result TxData Refusal → Offer
offer_by (Ok d) = record { number = 0; dates = d }
offer_by (Err r) = refused (number_of r)

-- what is done to a record where it stands, or refused: the number, and the record as it stands then
abbrev pub left_by : Queue → Result Unit Refusal → Booked
left_by m r = record { number = told r; manager = m }

-- the tests of manual queueing before 13
unfoldable pub manual_refusal : Queue → Bundle → ℕ
manual_refusal r b = unless (load_ok b) 2 (pick r.flags.self_update 12 0)
