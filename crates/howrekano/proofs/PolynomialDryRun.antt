-- A dry run of the polynomial manager on a record that keeps its rules: it has what the search and the answer ask, and answers what the search finds.
use Prim.Native.Nat.{ℕ, ◌≤◌}
use mathlib.Core.Bool.{true, false}
use mathlib.Core.Path.{◌≡◌, ap, ◌∙◌}
use Rattle.std.specs.Prelude.{Option}
use Rattle.units.specs.declared.Date.{Date}
use Rattle.units.specs.declared.Interval.{Interval}
use Rattle.units.specs.declared.Bundle.{Bundle}
use Rattle.units.specs.Limits.{date_max, volume_max, bundle_ok}
use Rattle.units.specs.Answer.{refused}
use Rattle.units.proofs.Logic.{unless-go, unless-stop}
use Rattle.units.proofs.Loads.{Load, asked-load, load}
use Rattle.segmentation.specs.Granted.{Short}
use Rattle.segmentation.proofs.DelayLaws.{delays-short}
use Rattle.free_list.specs.declared.Fit.{Fit}
use Rattle.free_list.specs.Offer.{fit_at}
use Rattle.free_list.specs.Cut.{listed}
use Rattle.poly.specs.declared.terms.Terms.{Terms}
use Rattle.poly.specs.Poly.{step_max}
use Rattle.poly.specs.Search.{wanted_of}
use Rattle.poly.specs.Granted.{terms_of, capacity_by}
use Rattle.poly_seg.specs.declared.PolySeg.{PolySeg}
use Rattle.poly_seg.specs.Record.{record_ok, delays_at}
use Rattle.poly_seg.specs.DryRun.{offer_of, dry_run_of, found_of, answer_to}
use Rattle.poly_seg.proofs.Counting.{size_small, counted-offer}
use Rattle.poly_seg.proofs.Facts.{Facts, facts, found-dates}

module _ (r : PolySeg) (at : Date) (b : Bundle) (ok : record_ok r ≡ true) where
  pub dry-bundle : bundle_ok at b ≡ false → dry_run_of r at b ≡ refused 2
  unfolding dry_run_of
  dry-bundle e = unless-go _ _ _ ok ∙ unless-stop _ _ _ e

  abbrev kept : Facts r
  kept = facts r ok

  -- the delays are short
  pub short : (s e : ℕ) → Short (delays_at r s e)
  short s e = delays-short _ _ _ _ kept.short

  module _ (fits : bundle_ok at b ≡ true) where
    pub dry-found : {f : Option Fit} → found_of r at.0 b.size.0 ≡ f → dry_run_of r at b ≡ answer_to r f
    unfolding dry_run_of
    dry-found e = unless-go _ _ _ ok ∙ unless-go _ _ _ fits ∙ ap (answer_to r) e

    abbrev carried : Load b
    carried = load b (asked-load at b fits)

    pub size-asks : b.size.0 ≤ volume_max
    size-asks = carried.size

    -- the search over the terms and the size that the mode makes
    module _ (terms : Terms) (same : terms ≡ terms_of r.choices.mode.0 r.polynome) (size : ℕ) (counted : size ≡ wanted_of r.choices.mode.0 b.size.0) where
      pub small : size ≤ step_max
      small = size_small r.choices.mode.0 r.polynome terms same b.size.0 size counted size-asks

      pub search_is : offer_of (capacity_by terms) (listed r.free) at.0 size ≡ found_of r at.0 b.size.0
      search_is = counted-offer r.choices.mode.0 r.polynome terms same b.size.0 size counted (listed r.free) at.0

    pub dated : (i : ℕ) (send : Interval) → found_of r at.0 b.size.0 ≡ fit_at i send → (send.start.0 ≤ date_max) × (send.end.0 ≤ date_max)
    dated i send e = found-dates r kept at.0 b.size.0 carried.some i send e
