-- 01, "Managers", Polynomial, the offer; and "Refusal numbers", Dry run: 1, 2, then 7 or 8.
use Rattle.std.specs.Prelude.{ℕ, max, List, [], ◌∷◌, ℤ, ltb, Option, Some, None}
use Rattle.units.specs.declared.Date.{Date}
use Rattle.units.specs.declared.Bundle.{Bundle}
use Rattle.units.specs.declared.Offer.{Offer}
use Rattle.units.specs.Logic.{pick, unless}
use Rattle.units.specs.Limits.{bundle_ok}
use Rattle.units.specs.Answer.{refused}
use Rattle.segmentation.specs.declared.VolumeSegment.{VolumeSegment}
use Rattle.free_list.specs.declared.Fit.{Fit}
use Rattle.free_list.specs.Offer.{up, or_else}
use Rattle.free_list.specs.Cut.{listed}
use Rattle.poly.specs.Poly.{capacity_to}
use Rattle.poly.specs.Search.{wanted_of, find_end}
use Rattle.poly_seg.specs.declared.PolySeg.{PolySeg}
use Rattle.poly_seg.specs.Record.{record_ok, answer_in}

-- the end in a segment, from the later of its start and the asked time t; a segment ending before t has none
abbrev pub end_in : (ℕ → ℤ) → VolumeSegment → ℕ → ℕ → Option Date
end_in cap g t v =
    pick (ltb g.end.0 t) None (find_end cap g.start.0 g.end.0 (max g.start.0 t) v)

-- a free segment that has no end for this bundle is passed over
unfoldable pub offer_of : (ℕ → ℤ) → List VolumeSegment → ℕ → ℕ → Option Fit
offer_of cap [] t v = None
offer_of cap (g ∷ f) t v = or_else (end_in cap g t v) (max g.start.0 t) (up (offer_of cap f t v))

-- the capacity to a date, and a size, as the record's mode counts them
abbrev pub capacity_of : PolySeg → ℕ → ℤ
capacity_of r = capacity_to r.choices.mode.0 r.polynome

abbrev pub size_of : PolySeg → ℕ → ℕ
size_of r v = wanted_of r.choices.mode.0 v

-- the listed segment and the send interval that are offered at t to a bundle of size v
abbrev pub found_of : PolySeg → ℕ → ℕ → Option Fit
found_of r t v = offer_of (capacity_of r) (listed r.free) t (size_of r v)

-- the number and the dates of what was found; 7 where nothing was
abbrev pub answer_to : PolySeg → Option Fit → Offer
answer_to r (Some x) = answer_in r x.send
answer_to r None = refused 7

-- the dry run
unfoldable pub dry_run_of : PolySeg → Date → Bundle → Offer
dry_run_of r at b =
    unless (record_ok r) (refused 1)
    (unless (bundle_ok at b) (refused 2)
    (answer_to r (found_of r at.0 b.size.0)))
