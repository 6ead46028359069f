-- 02, R-4: every offer of a priority record that names rule 2 is received by the segments that have its send start and its send end.
use mathlib.Core.Bool.{true}
use mathlib.Core.Path.{◌≡◌, refl}
use native.Mathlib.Omega.{arith}
use Rattle.units.specs.declared.Date.{Date}
use Rattle.units.specs.declared.Bundle.{Bundle}
use Rattle.units.specs.declared.Offer.{Offer}
use Rattle.units.specs.Limits.{bundle_ok}
use Rattle.units.proofs.Loads.{asked-load, load}
use Rattle.units.proofs.Booking.{offer-keeps}
use Rattle.contact.specs.Boundary.{Received}
use Rattle.contact.specs.Record.{delay_list}
use Rattle.bookings.specs.Search.{Run}
use Rattle.std.specs.declared.ops.ControlFlow.TheVariants.{Continue, Break}
use Rattle.pseg.specs.declared.PrioritySeg.{PrioritySeg}
use Rattle.pseg.specs.Record.{record_ok}
use Rattle.pseg.specs.DryRun.{run_of, answer_to, dry_run_of}
use Rattle.pseg.proofs.Facts.{facts, found-received}

module _ (r : PrioritySeg) (at : Date) (b : Bundle) (two : r.contact.choices.rule.0 ≡ 2) where
  abbrev By : Offer → Type 0
  By o = Received r.contact.window.end.0 (delay_list r.contact) o

  answer-received : record_ok r ≡ true → bundle_ok at b ≡ true → (f : Run) → run_of r at.0 b ≡ f → (answer_to r f).number ≡ 0 → By (answer_to r f)
  answer-received ok fits (Break send) e z = found-received r (facts r ok) at.0 b send e (load b (asked-load at b fits)).some two
  answer-received ok fits (Continue now) e z = absurd (omega (arith, z))

  pub offer-received : (dry_run_of r at b).number ≡ 0 → By (dry_run_of r at b)
  unfolding dry_run_of
  offer-received =
      offer-keeps By (record_ok r) (bundle_ok at b) (answer_to r (run_of r at.0 b)) (λ ok fits z. answer-received ok fits _ refl z)
