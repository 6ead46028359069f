-- 01, "Refusal numbers", Dry run: 1, 2, then 7 or 8; four dates on 0.
use Rattle.std.specs.Prelude.{ℕ, None}
use Rattle.units.specs.declared.Date.{Date}
use Rattle.units.specs.declared.Bundle.{Bundle}
use Rattle.units.specs.declared.Offer.{Offer}
use Rattle.units.specs.Logic.{unless}
use Rattle.units.specs.Limits.{bundle_ok}
use Rattle.units.specs.Answer.{refused}
use Rattle.contact.specs.Record.{rates_of, edition_of, answer_in}
use Rattle.std.specs.declared.ops.ControlFlow.TheVariants.{Continue, Break}
use Rattle.bookings.specs.Listed.{listed}
use Rattle.bookings.specs.Search.{Run, rule_of, search_of}
use Rattle.pseg.specs.declared.PrioritySeg.{PrioritySeg}
use Rattle.pseg.specs.Record.{record_ok}

-- the run that is offered at t to a bundle
abbrev pub run_of : PrioritySeg → ℕ → Bundle → Run
run_of r t b =
    search_of (rule_of (edition_of r.contact) (rates_of r.contact) b.size.0 r.contact.window.end.0) t b.priority.0 (listed r.bookings) (Continue None)

-- the number and the dates of what was found; 7 where no run reached its end
abbrev pub answer_to : PrioritySeg → Run → Offer
answer_to r (Break send) = answer_in r.contact send
answer_to r (Continue now) = refused 7

-- the dry run
unfoldable pub dry_run_of : PrioritySeg → Date → Bundle → Offer
dry_run_of r at b =
    unless (record_ok r) (refused 1)
    (unless (bundle_ok at b) (refused 2)
    (answer_to r (run_of r at.0 b)))
