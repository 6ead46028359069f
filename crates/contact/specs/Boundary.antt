-- 02, R-4, in its own words: the segment that a date has under rule 2, and the receive dates of an offer by it.
use Rattle.std.specs.Prelude.{ℕ, ◌+◌, ◌<◌, ◌≤◌, ◌≡◌, List, ◌⊎◌, length, get_or}
use Rattle.units.specs.declared.Offer.{Offer}
use Rattle.segmentation.specs.declared.DelaySegment.{DelaySegment}
use Rattle.contact.specs.Segments.{zero_delay}

-- the segment at the place has start <= date < end, or the date is the window's end b and the segment is the last
pub record Lies (b : ℕ) (l : List DelaySegment) (t i : ℕ) : Type 0 where
  pub place : i < length l
  pub lies : (((get_or l i zero_delay).start.0 ≤ t) × (t < (get_or l i zero_delay).end.0)) ⊎ ((t ≡ b) × (i + 1 ≡ length l))

-- an offer is received as long after its send start and end as the segments of these two dates say; the end's is not before the start's
pub record Received (b : ℕ) (l : List DelaySegment) (o : Offer) : Type 0 where
  pub first : ℕ
  pub last : ℕ
  pub starts : Lies b l o.dates.send.start.0 first
  pub ends : Lies b l o.dates.send.end.0 last
  pub order : first ≤ last
  pub start : o.dates.recv.start.0 ≡ o.dates.send.start.0 + (get_or l first zero_delay).delay.0
  pub end : o.dates.recv.end.0 ≡ o.dates.send.end.0 + (get_or l last zero_delay).delay.0
