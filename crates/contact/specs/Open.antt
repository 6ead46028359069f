-- 01, "Refusal numbers", Opening: 3, 4, 6, 5 in this order, and 02's 2 before all else; only the first places of a list count, and unused places are zero.
use Rattle.std.specs.Prelude.{ℕ, ◌+◌, ◌-◌, ◌*◌, Bool, List, [], ◌∷◌, leb, take, replicate, map}
use Rattle.units.specs.declared.Interval.{Interval}
use Rattle.units.specs.Logic.{both, unless, all_of}
use Rattle.units.specs.Limits.{segments_max, rate_max, volume_max, window_ok}
use Rattle.units.specs.Answer.{interval}
use Rattle.units.specs.Arrays.{padded}
use Rattle.segmentation.specs.declared.RateSegment.{RateSegment}
use Rattle.segmentation.specs.declared.DelaySegment.{DelaySegment}
use Rattle.contact.specs.declared.Choices.{Choices}
use Rattle.contact.specs.declared.Contact.{Contact}
use Rattle.contact.specs.declared.Opened.{Opened}
use Rattle.contact.specs.Choices.{unchosen, choices_ok}
use Rattle.contact.specs.Segments.{rate_span, covers, delays_ok, volume_of, zero_volume, zero_delay}

abbrev pub rate_ok : RateSegment → Bool
rate_ok s = leb s.rate.0 rate_max

-- the total volume of a contact
unfoldable pub total_of : List RateSegment → ℕ
total_of [] = 0
total_of (s ∷ l) = s.rate.0 * (s.end.0 - s.start.0) + total_of l

-- refusal 6: each rate, and the total volume, inside its limits
unfoldable pub volume_ok : List RateSegment → Bool
volume_ok l = both (all_of rate_ok l) (leb (total_of l) volume_max)

-- the contact that the figures give
abbrev pub contact_of : Choices → Interval → List RateSegment → ℕ → List DelaySegment → ℕ → Contact
contact_of h w rates m delays k =
    record {
      choices = h;
      window = w;
      rates = padded segments_max zero_volume (map volume_of (take m rates));
      rate_count = m;
      delays = padded segments_max zero_delay (take k delays);
      delay_count = k;
    }

-- a refused opening: the number, and zero all over
abbrev pub refused_contact : ℕ → Opened
refused_contact n =
    record {
      number = n;
      total = record { 0 = 0 };
      contact = record { choices = unchosen; window = interval 0 0; rates = replicate segments_max zero_volume; rate_count = 0; delays = replicate segments_max zero_delay; delay_count = 0 };
    }

-- the opening of a contact
unfoldable pub open_contact : Choices → Interval → List RateSegment → ℕ → List DelaySegment → ℕ → Opened
open_contact h w rates m delays k =
    unless (choices_ok h) (refused_contact 2)
    (unless (window_ok w) (refused_contact 3)
    (unless (covers rate_span w m rates) (refused_contact 4)
    (unless (volume_ok (take m rates)) (refused_contact 6)
    (unless (delays_ok w k delays) (refused_contact 5)
    (record { number = 0; total = record { 0 = total_of (take m rates) }; contact = contact_of h w rates m delays k })))))
