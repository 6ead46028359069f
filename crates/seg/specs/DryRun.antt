-- 01, "Refusal numbers", Dry run: 1, 2, then 7 or 8; four dates on 0.
use Rattle.std.specs.Prelude.{ℕ}
use Rattle.units.specs.declared.Date.{Date}
use Rattle.units.specs.declared.Bundle.{Bundle}
use Rattle.units.specs.declared.Offer.{Offer}
use Rattle.units.specs.Logic.{unless}
use Rattle.units.specs.Limits.{bundle_ok}
use Rattle.units.specs.Answer.{refused}
use Rattle.contact.specs.Record.{end_rule, answer_in}
use Rattle.free_list.specs.declared.Fit.{Fit}
use Rattle.std.specs.Prelude.{Option, Some, None}
use Rattle.free_list.specs.Offer.{offer_of}
use Rattle.free_list.specs.Cut.{listed}
use Rattle.seg.specs.declared.FreeVolume.{FreeVolume}
use Rattle.seg.specs.Record.{record_ok}

-- the listed segment and the send interval that are offered at t to a bundle of size v
abbrev pub found_of : FreeVolume → ℕ → ℕ → Option Fit
found_of r t v = offer_of (end_rule r.contact) (listed r.free) t v

-- the number and the dates of what was found; 7 where nothing was
abbrev pub answer_to : FreeVolume → Option Fit → Offer
answer_to r (Some x) = answer_in r.contact x.send
answer_to r None = refused 7

-- the dry run
unfoldable pub dry_run_of : FreeVolume → Date → Bundle → Offer
dry_run_of r at b =
    unless (record_ok r) (refused 1)
    (unless (bundle_ok at b) (refused 2)
    (answer_to r (found_of r at.0 b.size.0)))
