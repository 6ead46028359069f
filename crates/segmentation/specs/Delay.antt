-- 01, "Rounding and lookup", Delay, and 02, R-4, its second rule; and the number and dates of an answer whose send interval is found.
use Rattle.std.specs.Prelude.{ℕ, List, [], ◌∷◌, Bool, leb, ltb, eqb, length, Option, Some, None}
use Rattle.units.specs.declared.Interval.{Interval}
use Rattle.units.specs.declared.Offer.{Offer}
use Rattle.units.specs.Logic.{pick, both}
use Rattle.units.specs.Answer.{refused, offered}
use Rattle.segmentation.specs.declared.DelaySegment.{DelaySegment}
use Rattle.segmentation.specs.declared.Delays.{Delays}

-- rule 2: the date lies in the segment, start <= date < end; the last one, none after it, has its end too, which is the window's
abbrev pub lies_in : ℕ → DelaySegment → ℕ → Bool
lies_in t d after = both (leb d.start.0 t) (pick (eqb after 0) (leb t d.end.0) (ltb t d.end.0))

-- does the date belong to the segment, with so many after it: by rule 1 the first whose end is not before the date
unfoldable pub belongs : ℕ → ℕ → DelaySegment → ℕ → Bool
belongs rule t d after = pick (eqb rule 2) (lies_in t d after) (leb t d.end.0)

-- the segments from the first on that the date belongs to
unfoldable pub from_date : ℕ → List DelaySegment → ℕ → List DelaySegment
from_date rule [] t = []
from_date rule (d ∷ l) t = pick (belongs rule t d (length l)) (d ∷ l) (from_date rule l t)

abbrev pub heads : List DelaySegment → List DelaySegment → Option Delays
heads (a ∷ _) (b ∷ _) = Some (record { first = a.delay; last = b.delay })
heads (a ∷ _) [] = None
heads [] _ = None

-- the delays at a send start and a send end; by rule 1 the end's lookup goes on from the start's, by rule 2 each is by its own date
unfoldable pub delays_of : ℕ → List DelaySegment → ℕ → ℕ → Option Delays
delays_of rule l s e =
    let first : List DelaySegment = from_date rule l s in
    heads first (from_date rule (pick (eqb rule 2) l first) e)

-- the four dates; 8 where a lookup finds no segment
abbrev pub answer_of : ℕ → ℕ → Option Delays → Offer
answer_of s e (Some d) = offered s e d.first.0 d.last.0
answer_of s e None = refused 8

-- the answer with a send interval, by any lookup of its two delays: its four dates, or 8
abbrev pub answer_with : (ℕ → ℕ → Option Delays) → Interval → Offer
answer_with find send = answer_of send.start.0 send.end.0 (find send.start.0 send.end.0)
