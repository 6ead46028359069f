-- 01, "Records": all that the opening tests holds; a free list without volumes; unused places are zero.
use Rattle.std.specs.Prelude.{ℕ, Bool, List, [], leb, eqb, take, drop, Option}
use Rattle.units.specs.declared.Interval.{Interval}
use Rattle.units.specs.declared.Offer.{Offer}
use Rattle.units.specs.Limits.{listed_max}
use Rattle.units.specs.Logic.{both, all_of}
use Rattle.segmentation.specs.declared.DelaySegment.{DelaySegment}
use Rattle.segmentation.specs.declared.Delays.{Delays}
use Rattle.segmentation.specs.Delay.{delays_of, answer_with}
use Rattle.contact.specs.Segments.{no_volume, no_delay}
use Rattle.free_list.specs.Listed.{list_ok}
use Rattle.free_list.specs.Cut.{listed}
use Rattle.poly_seg.specs.declared.PolySeg.{PolySeg}
use Rattle.poly_seg.specs.Open.{open_of}

-- the delay segments of a record
abbrev pub delay_list : PolySeg → List DelaySegment
delay_list r = take r.delay_count r.delays

-- the rule that a record names for its delays
abbrev pub rule_of : PolySeg → ℕ
rule_of r = r.choices.rule.0

-- its strict flag
abbrev pub strict_of : PolySeg → ℕ
strict_of r = r.choices.strict.0

-- the delays at a send start and a send end by it, and the answer with a send interval
abbrev pub delays_at : PolySeg → ℕ → ℕ → Option Delays
delays_at r = delays_of (rule_of r) (delay_list r)

abbrev pub answer_in : PolySeg → Interval → Offer
answer_in r = answer_with (delays_at r)

-- an opening with the record's own figures is done; with no rates the exact capacity is 0, so each listed volume is 0
unfoldable pub record_ok : PolySeg → Bool
record_ok r =
    both (eqb (open_of r.choices r.window r.polynome r.delays r.delay_count).number 0)
    (both (all_of no_delay (drop r.delay_count r.delays))
    (both (leb 1 r.free.count)
    (both (leb r.free.count listed_max)
    (both (list_ok [] r.window.start.0 r.window.end.0 (listed r.free))
    (all_of no_volume (drop r.free.count r.free.segments))))))
