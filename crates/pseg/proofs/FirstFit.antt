-- The dry run without the search: on a record that keeps its rules it offers the run of the first listed segment from which one fits, and answers 7 exactly if there is none.
use Prim.Native.Nat.{ℕ}
use mathlib.Core.Bool.{true}
use mathlib.Core.Path.{◌≡◌, refl, sym, ap, ◌∙◌}
use native.Mathlib.Omega.{arith}
use Rattle.units.specs.declared.Date.{Date}
use Rattle.units.specs.declared.Interval.{Interval}
use Rattle.units.specs.declared.Bundle.{Bundle}
use Rattle.units.specs.declared.Offer.{Offer}
use Rattle.units.specs.Limits.{bundle_ok}
use Rattle.units.proofs.Loads.{asked-load, load}
use Rattle.segmentation.proofs.EndLaws.{end-monotone-start}
use Rattle.contact.specs.Record.{rates_of, edition_of}
use Rattle.contact.proofs.Lookup.{Answers}
use Rattle.bookings.specs.Search.{Run}
use Rattle.std.specs.declared.ops.ControlFlow.TheVariants.{Continue, Break}
use Rattle.bookings.specs.Listed.{listed}
use Rattle.bookings.specs.Fits.{FindsFirst}
use Rattle.bookings.proofs.FirstFit.{search-first}
use Rattle.pseg.specs.declared.PrioritySeg.{PrioritySeg}
use Rattle.pseg.specs.Record.{record_ok}
use Rattle.pseg.specs.DryRun.{run_of, answer_to, dry_run_of}
use Rattle.pseg.specs.FirstOffer.{run_end, FirstOffer}
use Rattle.pseg.proofs.Facts.{facts, found-answers}
use Rattle.pseg.proofs.Calls.{dry-fits}

module _ (r : PrioritySeg) (at : Date) (b : Bundle) where
  -- what an outcome of the search has to be
  abbrev First : Run → Type 0
  First = FindsFirst (run_end r b) at.0 b.priority.0 (listed r.bookings)

  -- the run that is found is the first that fits: a later start ends no sooner
  pub run-first : record_ok r ≡ true → First (run_of r at.0 b)
  run-first ok =
      search-first (run_end r b) at.0 b.priority.0 _ _ (listed r.bookings)
      (λ s u d e le h k. end-monotone-start (rates_of r.contact) s u b.size.0 le (edition_of r.contact) _ _ d e h k)
      (facts r ok).cover

  -- a run found is answered with 0 and its own dates
  sent-first : (send : Interval) (o : Offer) → Answers send o → First (Break send) → FirstOffer r at b o
  sent-first send o a q =
      record {
        offer = λ s. (
          λ x. (q.found s).0 (ap Break (sym a.sends ∙ x.1)),
          λ w. let is : Break send ≡ Break s = (q.found s).1 w in let same : send ≡ s = cc in (a.number, a.sends ∙ same),
        );
        none = (λ x. absurd (omega (arith, a.number)), λ n. absurd (q.none.1 n send refl));
      }

  -- and where none is found the answer is 7
  none_first : (o : Offer) (x : Run) → o.number ≡ 7 → ((send : Interval) → x ≡ Break send → ⊥) → First x → FirstOffer r at b o
  none_first o x seven nothing q =
      record {
        offer = λ s. (λ y. absurd (omega (arith, y.0)), λ w. absurd (nothing s ((q.found s).1 w)));
        none = (λ y. q.none.0 nothing, λ n. seven);
      }

  module _ (ok : record_ok r ≡ true) (fits : bundle_ok at b ≡ true) where
    first_by : (x : Run) → run_of r at.0 b ≡ x → First x → FirstOffer r at b (answer_to r x)
    first_by (Break send) e q = sent-first send (answer_to r (Break send)) (found-answers r (facts r ok) at.0 b send e (load b (asked-load at b fits)).some) q
    first_by (Continue now) e q = none_first (answer_to r (Continue now)) (Continue now) refl (λ s z. let y : ◌≡◌ {A = ℕ} 0 1 = cc in omega arith) q

    -- the dry run
    pub dry-first : FirstOffer r at b (dry_run_of r at b)
    dry-first = rw (dry-fits r at b ok fits) (first_by (run_of r at.0 b) refl (run-first ok))
