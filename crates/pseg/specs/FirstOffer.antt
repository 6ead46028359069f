-- RULES, Priority 1 to 5 and DryRun 1: the answer to a dry run by the listed segments, without the search.
use Rattle.std.specs.Prelude.{ℕ, ◌≡◌, ◌↔◌, Option}
use Rattle.units.specs.declared.Date.{Date}
use Rattle.units.specs.declared.Interval.{Interval}
use Rattle.units.specs.declared.Bundle.{Bundle}
use Rattle.units.specs.declared.Offer.{Offer}
use Rattle.contact.specs.Record.{end_rule}
use Rattle.bookings.specs.Listed.{listed}
use Rattle.bookings.specs.Fits.{FirstFit, NoFit}
use Rattle.pseg.specs.declared.PrioritySeg.{PrioritySeg}

-- the end of a run of the bundle that begins at s, found against the window's end
abbrev pub run_end : PrioritySeg → Bundle → ℕ → Option Date
run_end r b s = end_rule r.contact s b.size.0 r.contact.window.end.0

-- 0 and the run of the first segment from which one fits; 7 exactly if there is none
pub record FirstOffer (r : PrioritySeg) (at : Date) (b : Bundle) (o : Offer) : Type 0 where
  pub offer : (send : Interval) → ((o.number ≡ 0) × (o.dates.send ≡ send)) ↔ (FirstFit (run_end r b) at.0 b.priority.0 (listed r.bookings) send)
  pub none : (o.number ≡ 7) ↔ (NoFit (run_end r b) at.0 b.priority.0 (listed r.bookings))
