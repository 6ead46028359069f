-- 01, what else a dry run's answer says, so that with the earliest place it is whole and the search need not be believed.
use Rattle.std.specs.Prelude.{◌≡◌}
use Rattle.units.specs.declared.Bundle.{Bundle}
use Rattle.units.specs.declared.Offer.{Offer}
use Rattle.units.specs.Answer.{refused}
use Rattle.std.specs.Prelude.{Some}
use Rattle.contact.specs.Record.{answer_in}
use Rattle.pseg.specs.declared.PrioritySeg.{PrioritySeg}
use Rattle.earliest.specs.Earliest.{end_from}

-- an offer ends where the end rule says and is received after the delays; a refusal has zero dates
pub record Rest (r : PrioritySeg) (b : Bundle) (o : Offer) : Type 0 where
  pub ends : o.number ≡ 0 → end_from r b o.dates.send.start.0 ≡ Some o.dates.send.end
  pub receives : o.number ≡ 0 → o ≡ answer_in r.contact o.dates.send
  pub zero : o.number ≡ 7 → o ≡ refused 7
