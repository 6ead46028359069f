-- 01, "Managers", Priority, the offer. The end rule, from a start, is a parameter: what does not depend on rounding is said once over it.
use Rattle.std.specs.Prelude.{ℕ, max, List, [], ◌∷◌, leb, ltb, Option, Some, None}
use Rattle.std.specs.declared.ops.ControlFlow.{ControlFlow}
use Rattle.std.specs.declared.ops.ControlFlow.TheVariants.{Continue, Break}
use Rattle.units.specs.declared.Date.{Date}
use Rattle.units.specs.declared.Interval.{Interval}
use Rattle.units.specs.Logic.{pick}
use Rattle.units.specs.Answer.{interval}
use Rattle.segmentation.specs.declared.VolumeSegment.{VolumeSegment}
use Rattle.segmentation.specs.End.{end_of}
use Rattle.bookings.specs.declared.BookingSegment.{BookingSegment}

-- what a search has come to: `Break` with the run that is offered; else a run whose end lies ahead, or none
abbrev pub Run : Type 0
Run = ControlFlow Interval (Option Interval)

-- the offer comes at the first run segment that reaches the run's end; b is the segment's end
unfoldable pub reach_of : ℕ → Interval → Run
reach_of b run = pick (leb run.end.0 b) (Break run) (Continue (Some run))

-- a run begins; if no end is found, the next segment begins anew
unfoldable pub begin_of : ℕ → ℕ → Option Date → Run
begin_of b s (Some e) = reach_of b (interval s e.0)
begin_of b s None = Continue None

-- a segment with value >= the priority breaks a run
unfoldable pub broken_of : Run → Run
broken_of (Break run) = Break run
broken_of (Continue now) = Continue None

-- a run begins at the later of segment start and asked time t, or goes on
unfoldable pub free_of : (ℕ → Option Date) → ℕ → BookingSegment → Run → Run
free_of E t g (Continue None) = begin_of g.end.0 (max g.start.0 t) (E (max g.start.0 t))
free_of E t g (Continue (Some run)) = reach_of g.end.0 run
free_of E t g (Break run) = Break run

-- segments ending at or before the asked time are skipped; a level is above the priority p where the value is at least p
unfoldable pub turn_of : (ℕ → Option Date) → ℕ → ℕ → BookingSegment → Run → Run
turn_of E t p g r = pick (leb g.end.0 t) r (pick (ltb p g.level.0) (broken_of r) (free_of E t g r))

-- the segments in order
unfoldable pub search_of : (ℕ → Option Date) → ℕ → ℕ → List BookingSegment → Run → Run
search_of E t p [] r = r
search_of E t p (g ∷ f) r = search_of E t p f (turn_of E t p g r)

-- the end of a run is found against the window's end
abbrev pub rule_of : ℕ → List VolumeSegment → ℕ → ℕ → ℕ → Option Date
rule_of edition l v hi s = end_of edition l s v hi
