-- A dry run of the priority manager on a record that keeps its rules: it has what the search and the answer ask, and answers what the search finds.
use Prim.Native.Nat.{ℕ, ◌<◌, ◌≤◌}
use mathlib.Core.Bool.{true}
use mathlib.Core.Path.{◌≡◌, refl, sym, ap, ◌∙◌}
use Rattle.std.specs.Prelude.{Some, None}
use Rattle.std.specs.ControlFlow.{break_value}
use Rattle.std.specs.declared.ops.ControlFlow.TheVariants.{Continue, Break}
use Rattle.units.specs.declared.Date.{Date}
use Rattle.units.specs.declared.Interval.{Interval}
use Rattle.units.specs.declared.Bundle.{Bundle}
use Rattle.units.specs.Limits.{date_max, bundle_ok}
use Rattle.units.specs.Answer.{refused}
use Rattle.units.proofs.Loads.{asked-load, load}
use Rattle.segmentation.specs.Granted.{Short}
use Rattle.segmentation.proofs.DelayLaws.{delays-short}
use Rattle.contact.specs.Record.{answer_in, delays_at}
use Rattle.contact.proofs.Lookup.{all_short}
use Rattle.bookings.specs.Search.{Run}
use Rattle.pseg.specs.declared.PrioritySeg.{PrioritySeg}
use Rattle.pseg.specs.Record.{record_ok}
use Rattle.pseg.specs.DryRun.{dry_run_of, run_of, answer_to}
use Rattle.pseg.proofs.Facts.{facts, answer-asks}
use Rattle.pseg.proofs.Calls.{dry-fits}

-- what is found is the run that is sent, and none is answered with 7
sent : (x : Run) (send : Interval) → break_value x ≡ Some send → x ≡ Break send
sent (Break run) send h = cc
sent (Continue run) send h = absurd (cc)

unsent : (r : PrioritySeg) (x : Run) → break_value x ≡ None → answer_to r x ≡ refused 7
unsent r (Break run) h = absurd (cc)
unsent r (Continue run) h = refl

module _ (r : PrioritySeg) (at : Date) (b : Bundle) (ok : record_ok r ≡ true) where
  -- the delays are short
  pub short : (s e : ℕ) → Short (delays_at r.contact s e)
  short s e = delays-short _ _ _ _ (all_short _ (facts r ok).contact.brief)

  module _ (fits : bundle_ok at b ≡ true) where
    pub some : 0 < b.size.0
    some = (load b (asked-load at b fits)).some

    pub dry-none : None ≡ break_value (run_of r at.0 b) → dry_run_of r at b ≡ refused 7
    dry-none h = dry-fits r at b ok fits ∙ unsent r (run_of r at.0 b) (sym h)

    module _ (send : Interval) (h : Some send ≡ break_value (run_of r at.0 b)) where
      is : run_of r at.0 b ≡ Break send
      is = sent (run_of r at.0 b) send (sym h)

      pub dry-sent : dry_run_of r at b ≡ answer_in r.contact send
      dry-sent = dry-fits r at b ok fits ∙ ap (answer_to r) is

      pub dated : (send.start.0 ≤ date_max) × (send.end.0 ≤ date_max)
      dated = (answer-asks r (facts r ok) at.0 b send is some).1
