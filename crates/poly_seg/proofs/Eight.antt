-- By rule 2 no call of the polynomial manager, by what the calls promise in src/, answers 8; by rule 1 a dry run can.
use mathlib.Core.Path.{◌≡◌, refl, sym, ap, ◌∙◌}
use mathlib.Core.List.{[], ◌∷◌}
use lib.IntN.{pos}
use lib.ListN.{replicate}
use Rattle.units.specs.declared.Offer.{Offer}
use Rattle.units.specs.Logic.{both, all_of}
use Rattle.units.specs.Limits.{segments_max, one_or_two, window_ok, load_ok, bundle_ok}
use Rattle.units.specs.Arrays.{padded}
use Rattle.units.specs.Answer.{interval, refused}
use Rattle.units.specs.Strict.{strict_ok}
use Rattle.units.specs.Logged.{Never}
use Rattle.segmentation.specs.Capacity.{rate_at, cap_of}
use Rattle.segmentation.specs.Delay.{from_date, delays_of}
use Rattle.contact.specs.Segments.{zero_delay, no_delay, no_volume}
use Rattle.free_list.specs.Listed.{segment_ok, list_ok}
use Rattle.poly.specs.Poly.{step_of, horner_of, term_of, capacity_to, coefficients_ok, mag_of, range_ok, poly_ok}
use Rattle.poly.specs.Search.{area_from, wanted_of, halve_of, find_end}
use Rattle.poly_seg.specs.declared.PolySeg.{PolySeg}
use Rattle.poly_seg.specs.declared.Opened.{Opened}
use Rattle.poly_seg.specs.declared.Booked.{Booked}
use Rattle.poly_seg.specs.declared.Listing.{Listing}
use Rattle.poly_seg.specs.Choices.{ported, choices_ok}
use Rattle.poly_seg.specs.Open.{delays_ok, delays_by, open_of}
use Rattle.poly_seg.specs.Record.{rule_of, record_ok}
use Rattle.poly_seg.specs.DryRun.{offer_of, dry_run_of}
use Rattle.poly_seg.proofs.Never8.{dry-never-8, book-never-8, list-never-8}
use Rattle.poly_seg.proofs.Promised.{promised}

-- by rule 2, of every call on a record
pub second-never-8 : (r : PolySeg) → rule_of r ≡ 2 → Never promised 8 r
second-never-8 r two =
    record {
      dry_run = λ at b o p e. dry-never-8 r at b two (sym (ap (λ (x : Offer). x.number) p.1) ∙ e);
      book = λ at b d a p e. book-never-8 r at b d (sym (ap (λ (x : Booked). x.number) p.1) ∙ e);
      list = λ o p e. list-never-8 r (sym (ap (λ (x : Listing). x.number) p.1) ∙ e);
      further = λ a p e. p;
    }

-- by rule 1 it is answered: rate 10 in [0,10) and no delay segment, at 0, size 1
abbrev bare : Opened
bare = open_of ported (interval 0 10) (record { coefficients = pos 10 ∷ pos 0 ∷ pos 0 ∷ pos 0 ∷ []; offset = record { 0 = 0 } }) (replicate segments_max zero_delay) 0

pub first-8 : (bare.number ≡ 0) × (dry_run_of bare.manager (record { 0 = 0 }) (record { size = record { 0 = 1 }; priority = record { 0 = 0 } }) ≡ refused 8)
unfolding dry_run_of record_ok open_of choices_ok strict_ok one_or_two window_ok delays_by poly_ok list_ok segment_ok bundle_ok load_ok offer_of find_end halve_of area_from wanted_of capacity_to horner_of step_of delays_of from_date both all_of delays_ok coefficients_ok range_ok mag_of term_of padded no_delay cap_of rate_at no_volume
first-8 = (refl, refl)
