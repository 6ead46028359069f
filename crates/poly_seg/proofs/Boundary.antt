-- 02, R-4: every offer of a polynomial record that names rule 2 is received by the segments that have its send start and its send end.
use Rattle.std.specs.Prelude.{Option, Some, None}
use mathlib.Core.Bool.{true}
use mathlib.Core.Path.{◌≡◌, refl}
use native.Mathlib.Omega.{arith}
use Rattle.units.specs.declared.Date.{Date}
use Rattle.units.specs.declared.Bundle.{Bundle}
use Rattle.units.specs.declared.Offer.{Offer}
use Rattle.units.specs.Limits.{bundle_ok}
use Rattle.units.proofs.Loads.{asked-load, load}
use Rattle.units.proofs.Booking.{offer-keeps}
use Rattle.contact.specs.Boundary.{Received}
use Rattle.free_list.specs.declared.Fit.{Fit}
use Rattle.poly_seg.specs.declared.PolySeg.{PolySeg}
use Rattle.poly_seg.specs.Record.{rule_of, delay_list, record_ok}
use Rattle.poly_seg.specs.DryRun.{found_of, answer_to, dry_run_of}
use Rattle.poly_seg.proofs.Facts.{facts, found-received}

module _ (r : PolySeg) (at : Date) (b : Bundle) (two : rule_of r ≡ 2) where
  abbrev By : Offer → Type 0
  By o = Received r.window.end.0 (delay_list r) o

  answer-received : record_ok r ≡ true → bundle_ok at b ≡ true → (f : Option Fit) → found_of r at.0 b.size.0 ≡ f → (answer_to r f).number ≡ 0 → By (answer_to r f)
  answer-received ok fits (Some x) e z = found-received r (facts r ok) at.0 b.size.0 (load b (asked-load at b fits)).some x.place x.send e two
  answer-received ok fits None e z = absurd (omega (arith, z))

  pub offer-received : (dry_run_of r at b).number ≡ 0 → By (dry_run_of r at b)
  unfolding dry_run_of
  offer-received =
      offer-keeps By (record_ok r) (bundle_ok at b) (answer_to r (found_of r at.0 b.size.0)) (λ ok fits z. answer-received ok fits _ refl z)
