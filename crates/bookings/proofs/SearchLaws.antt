-- The search for a run, case by case and turn by turn.
use Prim.Native.Nat.{ℕ, zero, suc, ◌+◌, ◌<◌, ◌≤◌}
use mathlib.Core.Path.{◌≡◌, refl, sym, ap, ◌∙◌}
use mathlib.Core.List.{List, [], ◌∷◌}
use mathlib.Core.Logic.{⊎_elim}
use native.Mathlib.Omega.{arith}
use lib.ListN.{length, drop, get_or, drop_of_length-le}
use borrow.Author.Tests.{le-leb, lt-leb, lt-ltb, le-ltb}
use Rattle.units.specs.declared.Date.{Date}
use Rattle.units.specs.declared.Interval.{Interval}
use Rattle.units.proofs.Numbers.{le-or-lt}
use Rattle.units.proofs.Loop.{at-whole}
use Rattle.segmentation.specs.declared.VolumeSegment.{VolumeSegment}
use Rattle.segmentation.specs.Granted.{Covers}
use Rattle.bookings.specs.declared.BookingSegment.{BookingSegment}
use Rattle.std.specs.declared.ops.ControlFlow.TheVariants.{Continue, Break}
use Rattle.bookings.specs.Search.{Run}
use Rattle.std.specs.Prelude.{Option, Some}
use Rattle.bookings.specs.Search.{reach_of, broken_of, free_of, turn_of, search_of}
use Rattle.bookings.specs.Granted.{From}

module _ (b : ℕ) (run : Interval) where
  pub reach_now : run.end.0 ≤ b → reach_of b run ≡ Break run
  unfolding reach_of
  reach_now h = rw (le-leb _ _ h)

  pub reach-later : b < run.end.0 → reach_of b run ≡ Continue (Some run)
  unfolding reach_of
  reach-later h = rw (lt-leb _ _ h)

module _ (run : Interval) (r : Run) where
  pub broken-sent : r ≡ Break run → broken_of r ≡ Break run
  unfolding broken_of
  broken-sent h = rw h

module _ (E : ℕ → Option Date) (t p : ℕ) (g : BookingSegment) (r : Run) where
  pub turn-skip : g.end.0 ≤ t → turn_of E t p g r ≡ r
  unfolding turn_of
  turn-skip h = rw (le-leb _ _ h)

  pub turn-broken : t < g.end.0 → p < g.level.0 → turn_of E t p g r ≡ broken_of r
  unfolding turn_of
  turn-broken h k = rw (lt-leb _ _ h, lt-ltb _ _ k)

  module _ (h : t < g.end.0) (k : g.level.0 ≤ p) where
    pub turn-free : turn_of E t p g r ≡ free_of E t g r
    unfolding turn_of
    turn-free = rw (lt-leb _ _ h, le-ltb _ _ k)

    pub turn-going : (run : Interval) → r ≡ Continue (Some run) → turn_of E t p g r ≡ reach_of g.end.0 run
    unfolding free_of
    turn-going run q = turn-free ∙ ap (free_of E t g) q

    pub turn-sent : (run : Interval) → r ≡ Break run → turn_of E t p g r ≡ Break run
    unfolding free_of
    turn-sent run q = turn-free ∙ ap (free_of E t g) q

module _ (E : ℕ → Option Date) (t p : ℕ) where
  turn-stays : (g : BookingSegment) (run : Interval) → turn_of E t p g (Break run) ≡ Break run
  turn-stays g run =
      ⊎_elim
      (λ (h : g.end.0 ≤ t). turn-skip E t p g (Break run) h)
      (λ (h : t < g.end.0).
      ⊎_elim
      (λ (k : g.level.0 ≤ p). turn-sent E t p g (Break run) h k run refl)
      (λ (k : p < g.level.0). turn-broken E t p g (Break run) h k ∙ broken-sent run (Break run) refl)
      (le-or-lt g.level.0 p))
      (le-or-lt g.end.0 t)

  -- an offer stays
  pub sent-stays : (f : List BookingSegment) (run : Interval) → search_of E t p f (Break run) ≡ Break run
  unfolding search_of
  sent-stays [] run = refl
  sent-stays (g ∷ f) run = ap (search_of E t p f) (turn-stays g run) ∙ sent-stays f run

-- What the end rule takes for granted at each turn.
pub covers-later : (a b : ℕ) (l : List VolumeSegment) → a ≤ b → Covers a l → Covers b l
covers-later a b l h c = record { from = c.from; below = omega arith; run = c.run }

-- what is left of a list from the date on
module _ (lo : ℕ) where
  pub from-drop : (f : List BookingSegment) (i : ℕ) → From lo f → From lo (drop i f)
  unfolding From
  from-drop f zero q = q
  from-drop [] (suc i) q = q
  from-drop (g ∷ f) (suc i) q = from-drop f i q.1

  pub from_first : (g : BookingSegment) (f : List BookingSegment) → From lo (g ∷ f) → lo ≤ g.start.0
  unfolding From
  from_first g f q = q.0

  pub from_here : (f : List BookingSegment) (i : ℕ) (z : BookingSegment) → i < length f → From lo f → lo ≤ (get_or f i z).start.0
  from_here f i z lt q = from_first (get_or f i z) (drop (i + 1) f) (rw (at-whole f i z lt) at (from-drop f i q))

-- A `for` over the segments: what is left of the list is searched with the run so far.
module _ (E : ℕ → Option Date) (t p : ℕ) (r₀ : Run) (l : List BookingSegment) (r : Run) (i : ℕ) (q : search_of E t p l r₀ ≡ search_of E t p (drop i l) r) where
  pub search-end : length l ≤ i → search_of E t p l r₀ ≡ r
  unfolding search_of
  search-end h = q ∙ ap (λ (k : List BookingSegment). search_of E t p k r) (drop_of_length-le l h)

  module _ (z : BookingSegment) (lt : i < length l) where
    -- a turn's answer is what the rest is searched with
    pub search-on : (x : Run) → x ≡ turn_of E t p (get_or l i z) r → search_of E t p l r₀ ≡ search_of E t p (drop (i + 1) l) x
    unfolding search_of
    search-on x h =
        q ∙ ap (λ (k : List BookingSegment). search_of E t p k r) (at-whole l i z lt) ∙ ap (search_of E t p (drop (i + 1) l)) (sym h)

    pub search-sent : (run : Interval) → Break run ≡ turn_of E t p (get_or l i z) r → search_of E t p l r₀ ≡ Break run
    search-sent run h = search-on (Break run) h ∙ sent-stays E t p (drop (i + 1) l) run
