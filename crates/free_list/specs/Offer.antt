-- 01, "Managers", Free volume, the offer. The end rule is a parameter: what does not depend on rounding is said once over it.
use Rattle.std.specs.Prelude.{ℕ, suc, max, List, [], ◌∷◌, leb, ltb, Option, Some, None}
use Rattle.units.specs.declared.Date.{Date}
use Rattle.units.specs.declared.Interval.{Interval}
use Rattle.units.specs.Logic.{pick}
use Rattle.units.specs.Answer.{interval}
use Rattle.segmentation.specs.declared.VolumeSegment.{VolumeSegment}
use Rattle.free_list.specs.declared.Fit.{Fit}

-- an end rule: from a start, a size and a deadline
abbrev pub Rule : Type 0
Rule = ℕ → ℕ → ℕ → Option Date

-- the segment at the place makes the offer
abbrev pub fit_at : ℕ → Interval → Option Fit
fit_at i send = Some (record { place = i; send = send })

-- one place further on in the list
abbrev pub up : Option Fit → Option Fit
up (Some x) = fit_at (suc x.place) x.send
up None = None

abbrev pub or_else : Option Date → ℕ → Option Fit → Option Fit
or_else (Some e) s o = fit_at 0 (interval s e.0)
or_else None s o = o

-- the end in a segment from a start on: its listed volume is at least the size, and the end is by its own end
abbrev pub end_from : Rule → VolumeSegment → ℕ → ℕ → Option Date
end_from E g s v = pick (leb v g.volume.0) (E s v g.end.0) None

-- each further segment at its own start
unfoldable pub further_of : Rule → List VolumeSegment → ℕ → Option Fit
further_of E [] v = None
further_of E (g ∷ f) v = or_else (end_from E g g.start.0 v) g.start.0 (up (further_of E f v))

-- segments ending before the asked time t are skipped; the first remaining starts at the later of its start and t
unfoldable pub offer_of : Rule → List VolumeSegment → ℕ → ℕ → Option Fit
offer_of E [] t v = None
offer_of E (g ∷ f) t v =
    pick (ltb g.end.0 t)
    (up (offer_of E f t v))
    (or_else (end_from E g (max g.start.0 t) v) (max g.start.0 t) (up (further_of E f v)))
