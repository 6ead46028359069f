-- A run that is found is free: its end is the rule's, it starts in the window and not before the asked time, and no tick of it has a level above the priority.
use Prim.Native.Nat.{ℕ, ◌<◌, ◌≤◌, max}
use mathlib.Core.Bool.{true}
use mathlib.Core.Path.{◌≡◌, refl, sym, ◌∙◌}
use mathlib.Core.List.{List, [], ◌∷◌}
use mathlib.Core.Logic.{⊎_elim}
use native.Mathlib.Omega.{arith}
use Rattle.units.specs.declared.Date.{Date}
use Rattle.units.specs.declared.Interval.{Interval}
use Rattle.units.specs.Answer.{interval}
use Rattle.units.proofs.Numbers.{le-or-lt}
use Rattle.bookings.specs.declared.BookingSegment.{BookingSegment}
use Rattle.std.specs.declared.ops.ControlFlow.TheVariants.{Continue, Break}
use Rattle.bookings.specs.Search.{Run}
use Rattle.std.specs.Prelude.{Option, Some, None}
use Rattle.bookings.specs.Listed.{level_at, cover_ok}
use Rattle.bookings.specs.Search.{reach_of, begin_of, broken_of, free_of, turn_of, search_of}
use Rattle.bookings.proofs.CoverLaws.{Cover, cover-of}
use Rattle.bookings.proofs.Instants.{level_in, level-past}
use Rattle.bookings.proofs.SearchLaws.{reach_now, reach-later, turn-skip, turn-broken, turn-free}

-- the run has the rule's end, starts not before lo and t, and has no level above p before the date b
pub record Free (E : ℕ → Option Date) (level : ℕ → ℕ) (lo t p b : ℕ) (run : Interval) : Type 0 where
  pub ends : E run.start.0 ≡ Some run.end
  pub low : lo ≤ run.start.0
  pub asked : t ≤ run.start.0
  pub free : (u : ℕ) → run.start.0 ≤ u → u < b → level u ≤ p

-- the same run, up to another date
free-to : (E : ℕ → Option Date) (level : ℕ → ℕ) (lo t p a b : ℕ) (run : Interval) → Free E level lo t p a run
    → ((u : ℕ) → run.start.0 ≤ u → u < b → level u ≤ p) → Free E level lo t p b run
free-to E level lo t p a b run q f = record { ends = q.ends; low = q.low; asked = q.asked; free = f }

-- what is known of a state at the date a: a run is free so far, one that is found up to its end
unfoldable Good : (ℕ → Option Date) → (ℕ → ℕ) → ℕ → ℕ → ℕ → ℕ → Run → Type 0
Good E level lo t p a (Continue None) = Unit
Good E level lo t p a (Continue (Some run)) = Free E level lo t p a run
Good E level lo t p a (Break run) = Free E level lo t p run.end.0 run

module _ (E : ℕ → Option Date) (level : ℕ → ℕ) (lo t p : ℕ) (g : BookingSegment) (in-it : lo ≤ g.start.0)
    (here : (u : ℕ) → g.start.0 ≤ u → u < g.end.0 → level u ≡ g.level.0) where
  -- a run that is free up to the segment's end
  good-reach : (run : Interval) → Free E level lo t p g.end.0 run → Good E level lo t p g.end.0 (reach_of g.end.0 run)
  unfolding Good
  good-reach run q =
      ⊎_elim
      (λ (k : run.end.0 ≤ g.end.0).
      rw (reach_now g.end.0 run k)
      (free-to E level lo t p g.end.0 run.end.0 run q (λ (u : ℕ) (x : run.start.0 ≤ u) (y : u < run.end.0). q.free u x (omega arith))))
      (λ (k : g.end.0 < run.end.0). rw (reach-later g.end.0 run k) q)
      (le-or-lt run.end.0 g.end.0)

  good-begin : (s : ℕ) (x : Option Date) → E s ≡ x → s ≡ max g.start.0 t → g.level.0 ≤ p → Good E level lo t p g.end.0 (begin_of g.end.0 s x)
  unfolding Good begin_of
  good-begin s (Some e) q m k =
      good-reach (interval s e.0)
      (record {
        ends = q;
        low = omega arith;
        asked = omega arith;
        free = λ (u : ℕ) (x : s ≤ u) (y : u < g.end.0). omega (arith, here u (omega arith) y);
      })
  good-begin s None q m k = tt

  good-free : (r : Run) → g.level.0 ≤ p → Good E level lo t p g.start.0 r → Good E level lo t p g.end.0 (free_of E t g r)
  unfolding Good free_of
  good-free (Continue None) k q = good-begin (max g.start.0 t) (E (max g.start.0 t)) refl refl k
  good-free (Continue (Some run)) k q =
      good-reach run
      (free-to E level lo t p g.start.0 g.end.0 run q
      (λ (u : ℕ) (x : run.start.0 ≤ u) (y : u < g.end.0).
      ⊎_elim (λ (z : g.start.0 ≤ u). omega (arith, here u z y)) (λ (z : u < g.start.0). q.free u x z) (le-or-lt g.start.0 u)))
  good-free (Break run) k q = q

  good-skip : (r : Run) → g.end.0 ≤ t → Good E level lo t p g.start.0 r → Good E level lo t p g.end.0 r
  unfolding Good
  good-skip (Continue None) k q = tt
  good-skip (Continue (Some run)) k q =
      free-to E level lo t p g.start.0 g.end.0 run q (λ (u : ℕ) (x : run.start.0 ≤ u) (y : u < g.end.0). absurd (omega (arith, q.asked)))
  good-skip (Break run) k q = q

  good-broken : (r : Run) → Good E level lo t p g.start.0 r → Good E level lo t p g.end.0 (broken_of r)
  unfolding Good broken_of
  good-broken (Continue None) q = tt
  good-broken (Continue (Some run)) q = tt
  good-broken (Break run) q = q

  good_turn : (r : Run) → Good E level lo t p g.start.0 r → Good E level lo t p g.end.0 (turn_of E t p g r)
  good_turn r q =
      ⊎_elim
      (λ (h : g.end.0 ≤ t). rw (turn-skip E t p g r h) (good-skip r h q))
      (λ (h : t < g.end.0).
      ⊎_elim
      (λ (k : g.level.0 ≤ p). rw (turn-free E t p g r h k) (good-free r k q))
      (λ (k : p < g.level.0). rw (turn-broken E t p g r h k) (good-broken r q))
      (le-or-lt g.level.0 p))
      (le-or-lt g.end.0 t)

good-search : (E : ℕ → Option Date) (level : ℕ → ℕ) (lo t p : ℕ) (f : List BookingSegment) (a b : ℕ) (r : Run) → lo ≤ a → Cover a b f
    → ((u : ℕ) → a ≤ u → level u ≡ level_at f u) → Good E level lo t p a r → Good E level lo t p b (search_of E t p f r)
unfolding Cover search_of
good-search E level lo t p [] a b r h c v q = rw (sym c) q
good-search E level lo t p (g ∷ f) a b r h c v q =
    good-search E level lo t p f g.end.0 b (turn_of E t p g r) (omega (arith, c.0, c.1)) c.3
    (λ (u : ℕ) (x : g.end.0 ≤ u). v u (omega (arith, c.0, c.1)) ∙ level-past g f u x)
    (good_turn E level lo t p g (omega (arith, c.0)) (λ (u : ℕ) (x : g.start.0 ≤ u) (y : u < g.end.0). v u (omega (arith, c.0)) ∙ level_in g f u x y) r (rw c.0 q))

pub run-found : (E : ℕ → Option Date) (t p lo hi : ℕ) (f : List BookingSegment) (run : Interval) → cover_ok lo hi f ≡ true → search_of E t p f (Continue None) ≡ Break run
    → Free E (level_at f) lo t p run.end.0 run
unfolding Good
run-found E t p lo hi f run c h =
    let q : Good E (level_at f) lo t p hi (Break run) =
    rw h at (good-search E (level_at f) lo t p f lo hi (Continue None) (omega arith) (cover-of lo hi f c) (λ (u : ℕ) (x : lo ≤ u). refl) tt) in
    q
