-- RULES, Priority 1 to 5, the offer without the search: it is the run of the first listed segment from which one fits. That the search finds this run is proved (proofs/FirstFit).
use Rattle.std.specs.Prelude.{ℕ, ◌<◌, ◌≤◌, max, ◌≡◌, List, [], ◌∷◌, ◌⊎◌, ◌↔◌, pos, ◌<ℤ◌, Option, Some}
use Rattle.std.specs.declared.ops.ControlFlow.TheVariants.{Break}
use Rattle.units.specs.declared.Date.{Date}
use Rattle.units.specs.declared.Interval.{Interval}
use Rattle.bookings.specs.declared.BookingSegment.{BookingSegment}
use Rattle.bookings.specs.Search.{Run}
use Rattle.bookings.specs.Listed.{value_of}

-- one of the segments reaches the date e, and it and each one before it has a value below the priority p
unfoldable pub Reaches : ℕ → ℕ → List BookingSegment → Type 0
Reaches p e [] = ⊥
Reaches p e (g ∷ f) = (value_of g.level <ℤ pos p) × ((e ≤ g.end.0) ⊎ Reaches p e f)

-- a run fits from the segment g on, which f follows: g does not end at or before the asked time t, the run begins at the later of its start and t, ends as the rule E says, and reaches that end
pub record Fits (E : ℕ → Option Date) (t p : ℕ) (g : BookingSegment) (f : List BookingSegment) (send : Interval) : Type 0 where
  pub late : t < g.end.0
  pub begins : send.start.0 ≡ max g.start.0 t
  pub ends : E send.start.0 ≡ Some send.end
  pub reaches : Reaches p send.end.0 (g ∷ f)

-- no run fits from g on
abbrev pub Unfit : (ℕ → Option Date) → ℕ → ℕ → BookingSegment → List BookingSegment → Type 0
Unfit E t p g f = (send : Interval) → Fits E t p g f send → ⊥

-- the run fits from the first segment from which one does
unfoldable pub FirstFit : (ℕ → Option Date) → ℕ → ℕ → List BookingSegment → Interval → Type 0
FirstFit E t p [] send = ⊥
FirstFit E t p (g ∷ f) send = (Fits E t p g f send) ⊎ ((Unfit E t p g f) × (FirstFit E t p f send))

-- no run fits from any segment
unfoldable pub NoFit : (ℕ → Option Date) → ℕ → ℕ → List BookingSegment → Type 0
NoFit E t p [] = Unit
NoFit E t p (g ∷ f) = (Unfit E t p g f) × (NoFit E t p f)

-- what is found is the first run that fits, and nothing is found exactly if none does
pub record FindsFirst (E : ℕ → Option Date) (t p : ℕ) (f : List BookingSegment) (x : Run) : Type 0 where
  pub found : (send : Interval) → (x ≡ Break send) ↔ (FirstFit E t p f send)
  pub none : ((send : Interval) → x ≡ Break send → ⊥) ↔ (NoFit E t p f)
