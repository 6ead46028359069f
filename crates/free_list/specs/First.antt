-- RULES, Free 1 to 3 and Poly 5: the offer in words that do not follow the search: the first listed segment that has an end.
use Rattle.std.specs.Prelude.{ℕ, max, ◌<◌, ◌≡◌, List, length, get_or, Option, Some, None}
use Rattle.units.specs.declared.Date.{Date}
use Rattle.units.specs.declared.Interval.{Interval}
use Rattle.segmentation.specs.declared.VolumeSegment.{VolumeSegment}
use Rattle.contact.specs.Segments.{zero_volume}
use Rattle.free_list.specs.declared.Fit.{Fit}
use Rattle.free_list.specs.Offer.{fit_at}

-- over any end in a segment (free volume: `end_in`): the segment at the place has one, the send starts at the later of its start and t, and no segment before it has one
pub record FirstAt (end-in : VolumeSegment → Option Date) (t : ℕ) (f : List VolumeSegment) (i : ℕ) (send : Interval) : Type 0 where
  pub place : i < length f
  pub start : send.start.0 ≡ max (get_or f i zero_volume).start.0 t
  pub end : end-in (get_or f i zero_volume) ≡ Some send.end
  pub before : (j : ℕ) → j < i → end-in (get_or f j zero_volume) ≡ None

-- the offer is that of the first segment; there is none only where no listed segment has an end
pub data OfferIs (end-in : VolumeSegment → Option Date) (t : ℕ) (f : List VolumeSegment) (r : Option Fit) : Type 0 where
  first : (i : ℕ) (send : Interval) → FirstAt end-in t f i send → r ≡ fit_at i send → OfferIs end-in t f r
  none : ((j : ℕ) → j < length f → end-in (get_or f j zero_volume) ≡ None) → r ≡ None → OfferIs end-in t f r
