-- What inner functions take for granted or compute on the way. No promise of a public call rests on it.
use Rattle.std.specs.Prelude.{ℕ, ◌+◌, ◌-◌, ◌*◌, ◌%◌, ◌<◌, ◌≤◌, Bool, List, [], ◌∷◌, leb, ltb, eqb, take, map, Option, Some, None, Result, Ok, Err}
use Rattle.units.specs.Limits.{length_max, volume_max, segments_max}
use Rattle.units.specs.declared.Interval.{Interval}
use Rattle.units.specs.declared.Volume.{Volume}
use Rattle.units.specs.declared.refusal.Refusal.{Refusal}
use Rattle.units.specs.Refusal.{number_of}
use Rattle.units.specs.Logic.{both, pick, all_of}
use Rattle.segmentation.specs.declared.RateSegment.{RateSegment}
use Rattle.segmentation.specs.declared.VolumeSegment.{VolumeSegment}
use Rattle.contact.specs.Segments.{volume_span, spans, rate_segment, whole_of}
use Rattle.contact.specs.Open.{rate_ok, total_of, volume_ok, refused_contact}
use Rattle.contact.specs.declared.Contact.{Contact}
use Rattle.contact.specs.declared.Opened.{Opened}

-- the length is not negative and within its limit
pub record Spanning (s : RateSegment) : Type 0 where
  pub forth : s.start.0 < s.end.0
  pub short : s.end.0 ≤ s.start.0 + length_max

-- the rate times the length is within the volume's limit
pub record Fitting (s : RateSegment) : Type 0 where
  pub spanning : Spanning s
  pub small : s.rate.0 * (s.end.0 - s.start.0) ≤ volume_max

unfoldable pub Forward : List RateSegment → Type 0
Forward [] = Unit
Forward (s ∷ l) = (Spanning s) × (Forward l)

unfoldable pub AllFitting : List RateSegment → Type 0
AllFitting [] = Unit
AllFitting (s ∷ l) = (Fitting s) × (AllFitting l)

-- the test of one volume segment in its turn (`takes`)
unfoldable pub takes_of : VolumeSegment → ℕ → ℕ → Bool
takes_of s at room =
    both (eqb s.start.0 at)
    (both (ltb s.start.0 s.end.0)
    (both (leb s.volume.0 room)
    (both (rate_ok (rate_segment s))
    (eqb (s.volume.0 % (s.end.0 - s.start.0)) 0))))

-- the volume segments are the window, each a rate times its length, the rates and their total inside the limits
unfoldable pub volumes_ok : Interval → List VolumeSegment → Bool
volumes_ok w l =
    both (spans volume_span w.start.0 w.end.0 l) (both (all_of whole_of l) (volume_ok (map rate_segment l)))

unfoldable pub counted_volumes : Interval → ℕ → List VolumeSegment → Bool
counted_volumes w n l = both (leb 1 n) (both (leb n segments_max) (volumes_ok w (take n l)))

-- the total, where the rates are inside their limits (`total_of`)
abbrev pub total_within : List RateSegment → Option Volume
total_within l = pick (volume_ok l) (Some (record { 0 = total_of l })) None

-- an opening's answer, done or refused (`Contact::opened`)
abbrev pub opened_by : Result (Contact × Volume) Refusal → Opened
opened_by (Ok x) = record { number = 0; total = x.1; contact = x.0 }
opened_by (Err r) = refused_contact (number_of r)
