-- What a run that is found is answered with: 0 and its own dates, since both delay lookups find a segment; and that the rest of the answer is 01's.
use Prim.Native.Nat.{◌<◌}
use mathlib.Core.Bool.{true}
use mathlib.Core.Path.{◌≡◌, refl, ap}
use native.Mathlib.Omega.{arith}
use Rattle.units.specs.declared.Date.{Date}
use Rattle.units.specs.declared.Interval.{Interval}
use Rattle.units.specs.declared.Bundle.{Bundle}
use Rattle.units.specs.declared.Offer.{Offer}
use Rattle.units.specs.Answer.{refused}
use Rattle.std.specs.Prelude.{Some, None}
use Rattle.contact.specs.Record.{edition_of, rates_of}
use Rattle.contact.proofs.Lookup.{Answers}
use Rattle.bookings.specs.Search.{Run}
use Rattle.std.specs.declared.ops.ControlFlow.TheVariants.{Continue, Break}
use Rattle.pseg.specs.declared.PrioritySeg.{PrioritySeg}
use Rattle.pseg.specs.Record.{record_ok}
use Rattle.pseg.specs.DryRun.{run_of, answer_to}
use Rattle.pseg.proofs.Facts.{facts, found-free, found-answers}
use Rattle.earliest.specs.Earliest.{end_from}
use Rattle.earliest.specs.Rest.{Rest}
use Rattle.earliest.proofs.Rule.{Orderly, end-orderly}

module _ (r : PrioritySeg) (b : Bundle) where
  -- a refusal with 7 has zero dates
  seven-rest : (o : Offer) → o ≡ refused 7 → Rest r b o
  seven-rest o is =
      let seven : o.number ≡ 7 = ap (λ (x : Offer). x.number) is in
      record { ends = λ z. absurd (omega arith); receives = λ z. absurd (omega arith); zero = λ z. is }

  module _ (ok : record_ok r ≡ true) (some : 0 < b.size.0) where
    -- the end rule of a record that keeps its rules
    pub rule : Orderly (end_from r b) r.contact.window.end.0
    rule =
        let c = (facts r ok).contact in
        end-orderly (edition_of r.contact) (rates_of r.contact) b.size.0 _ _ some c.some c.close

    module _ (at : Date) where
      -- the dates of a run that is found
      module _ (send : Interval) (e : run_of r at.0 b ≡ Break send) where
        ends : end_from r b send.start.0 ≡ Some send.end
        ends = (found-free r (facts r ok) at.0 b send e).ends

        pub sent : Answers send (answer_to r (Break send))
        sent = found-answers r (facts r ok) at.0 b send e some

        sent-rest : Rest r b (answer_to r (Break send))
        sent-rest = record { ends = λ z. rw sent.sends ends; receives = λ z. rw sent.sends refl; zero = λ z. absurd (omega (arith, sent.number)) }

      pub rest-by : (x : Run) → run_of r at.0 b ≡ x → Rest r b (answer_to r x)
      rest-by (Break send) e = sent-rest send e
      rest-by (Continue (Some send)) e = seven-rest _ refl
      rest-by (Continue None) e = seven-rest _ refl
