-- The search finds the least start, for any orderly end rule, on a list without an empty segment: at every segment, no start lies before what the search still looks at.
use Prim.Native.Nat.{ℕ, ◌<◌, ◌≤◌, max}
use mathlib.Core.Bool.{true}
use mathlib.Core.Path.{◌≡◌, refl, sym, ◌∙◌}
use mathlib.Core.List.{List, [], ◌∷◌}
use mathlib.Core.Logic.{⊎_elim}
use native.Mathlib.Omega.{arith}
use borrow.Author.Tests.{ltb-true}
use Rattle.units.specs.declared.Date.{Date}
use Rattle.units.specs.declared.Interval.{Interval}
use Rattle.units.specs.Answer.{interval}
use Rattle.units.specs.Logic.{all_of}
use Rattle.units.proofs.Logic.{all_head, all_tail}
use Rattle.units.proofs.Numbers.{le-or-lt}
use Rattle.std.specs.Prelude.{Option, Some, None}
use Rattle.bookings.specs.declared.BookingSegment.{BookingSegment}
use Rattle.bookings.specs.Search.{Run}
use Rattle.std.specs.declared.ops.ControlFlow.TheVariants.{Continue, Break}
use Rattle.bookings.specs.Listed.{level_at, cover_ok}
use Rattle.bookings.specs.Search.{reach_of, begin_of, broken_of, free_of, turn_of, search_of}
use Rattle.bookings.proofs.CoverLaws.{Cover, cover-of}
use Rattle.bookings.proofs.Instants.{level_in, level-past}
use Rattle.bookings.proofs.SearchLaws.{reach_now, reach-later, turn-skip, turn-broken, turn-free}
use Rattle.bookings.proofs.RunLaws.{Free}
use Rattle.earliest.specs.Start.{Start, Least}
use Rattle.earliest.specs.Earliest.{filled}
use Rattle.earliest.proofs.Rule.{Orderly, no_end, one_end}

-- what the search's outcome says of the ticks of which P holds: the run that is found starts at the least; where none is found there is none
unfoldable pub Tells : (ℕ → Type 0) → Run → Type 0
Tells P (Break run) = Least P run.start.0
Tells P (Continue (Some run)) = (s : ℕ) → P s → ⊥
Tells P (Continue None) = (s : ℕ) → P s → ⊥

-- a covered window does not end before it starts
cover-forth : (a b : ℕ) (f : List BookingSegment) → Cover a b f → a ≤ b
unfolding Cover
cover-forth a b [] c = omega (arith, c)
cover-forth a b (g ∷ f) c = omega (arith, c.0, c.1, cover-forth g.end.0 b f c.3)

module _ (E : ℕ → Option Date) (level : ℕ → ℕ) (lo hi t p : ℕ) (rule : Orderly E hi) where
  -- the starts, with the level of a tick for what is booked there
  abbrev Can : ℕ → Type 0
  Can = Start E (λ (u : ℕ). level u ≤ p) lo hi t

  -- a run under way at the date a: free so far, its end ahead, and no start before its own
  record Leads (a : ℕ) (run : Interval) : Type 0 where
    first : (u : ℕ) → Can u → run.start.0 ≤ u
    free : Free E level lo t p a run
    begun : run.start.0 < a
    ahead : a < run.end.0

  -- what is known when the search has looked at all before the date a
  unfoldable Known : ℕ → Run → Type 0
  Known a (Continue None) = (u : ℕ) → Can u → a ≤ u
  Known a (Continue (Some run)) = Leads a run
  Known a (Break run) = Least Can run.start.0

  module _ (g : BookingSegment) (from : lo ≤ g.start.0) (some : g.start.0 < g.end.0) (to : g.end.0 ≤ hi)
      (here : (u : ℕ) → g.start.0 ≤ u → u < g.end.0 → level u ≡ g.level.0) where
    -- a run that is free up to the segment's end
    known-reach : (run : Interval) → ((u : ℕ) → Can u → run.start.0 ≤ u) → Free E level lo t p g.end.0 run → run.start.0 < g.end.0
        → Known g.end.0 (reach_of g.end.0 run)
    unfolding Known
    known-reach run first q begun =
        ⊎_elim
        (λ (k : run.end.0 ≤ g.end.0).
        rw (reach_now g.end.0 run k)
        (record {
          is = record {
            asked = omega (arith, q.asked);
            inside = (omega (arith, q.low), omega arith);
            end = run.end;
            ends = q.ends;
            by = omega arith;
            free = λ u x y. omega (arith, q.free u x (omega arith));
            itself = omega (arith, q.free run.start.0 (omega arith) begun);
          };
          least = λ u z. omega (arith, first u z);
        }))
        (λ (k : g.end.0 < run.end.0). rw (reach-later g.end.0 run k) (record { first = first; free = q; begun = begun; ahead = k }))
        (le-or-lt run.end.0 g.end.0)

    -- a run begins at s: no start lies before it, and where it has no end no later tick has
    known-begin : (s : ℕ) (x : Option Date) → E s ≡ x → s ≡ max g.start.0 t → t < g.end.0 → g.level.0 ≤ p → ((u : ℕ) → Can u → g.start.0 ≤ u)
        → Known g.end.0 (begin_of g.end.0 s x)
    unfolding Known begin_of
    known-begin s (Some e) q m h k first =
        known-reach (interval s e.0)
        (λ (u : ℕ) (z : Can u). omega (arith, first u z, z.asked))
        (record {
          ends = q;
          low = omega arith;
          asked = omega arith;
          free = λ (u : ℕ) (x : s ≤ u) (y : u < g.end.0). omega (arith, here u (omega arith) y);
        })
        (omega arith)
    known-begin s None q m h k first =
        λ (u : ℕ) (z : Can u).
        let d = rule.sooner s u z.end (omega (arith, first u z, z.asked)) z.ends in
        absurd (no_end d.0 (sym q ∙ d.1.0))

    known-free : (r : Run) → t < g.end.0 → g.level.0 ≤ p → Known g.start.0 r → Known g.end.0 (free_of E t g r)
    unfolding Known free_of
    known-free (Continue None) h k q = known-begin (max g.start.0 t) (E (max g.start.0 t)) refl refl h k q
    known-free (Continue (Some run)) h k q =
        let f = q.free in
        known-reach run q.first
        (record {
          ends = f.ends;
          low = f.low;
          asked = f.asked;
          free = λ (u : ℕ) (x : run.start.0 ≤ u) (y : u < g.end.0).
              ⊎_elim (λ (z : g.start.0 ≤ u). omega (arith, here u z y)) (λ (z : u < g.start.0). f.free u x z) (le-or-lt g.start.0 u);
        })
        (omega (arith, q.begun))
    known-free (Break run) h k q = q

    -- a segment that ends by the asked time holds no start, and no run is under way there
    known-skip : (r : Run) → g.end.0 ≤ t → Known g.start.0 r → Known g.end.0 r
    unfolding Known
    known-skip (Continue None) h q = λ (u : ℕ) (z : Can u). omega (arith, z.asked)
    known-skip (Continue (Some run)) h q = absurd (omega (arith, q.begun, q.free.asked))
    known-skip (Break run) h q = q

    -- no start lies in a segment at or above the priority
    outside : p < g.level.0 → (u : ℕ) → Can u → g.start.0 ≤ u → g.end.0 ≤ u
    outside k u z x = ⊎_elim (λ (y : g.end.0 ≤ u). y) (λ (y : u < g.end.0). absurd (omega (arith, here u x y, z.itself))) (le-or-lt g.end.0 u)

    -- nor before it, where the run that it breaks began: an end from there would be no earlier than the run's, which lies past the segment's start
    known-broken : (r : Run) → p < g.level.0 → Known g.start.0 r → Known g.end.0 (broken_of r)
    unfolding Known broken_of
    known-broken (Continue None) k q = λ (u : ℕ) (z : Can u). outside k u z (q u z)
    known-broken (Continue (Some run)) k q =
        λ (u : ℕ) (z : Can u).
        ⊎_elim
        (λ (x : g.start.0 ≤ u). outside k u z x)
        (λ (x : u < g.start.0).
        let d = rule.sooner run.start.0 u z.end (q.first u z) z.ends in
        let same = one_end d.0 run.end (E run.start.0) d.1.0 q.free.ends in
        let past : g.start.0 < z.end.0 = omega (arith, same, d.1.1, q.ahead) in
        absurd (omega (arith, here g.start.0 (omega arith) some, z.free g.start.0 (omega arith) past)))
        (le-or-lt g.start.0 u)
    known-broken (Break run) k q = q

    known-turn : (r : Run) → Known g.start.0 r → Known g.end.0 (turn_of E t p g r)
    known-turn r q =
        ⊎_elim
        (λ (h : g.end.0 ≤ t). rw (turn-skip E t p g r h) (known-skip r h q))
        (λ (h : t < g.end.0).
        ⊎_elim
        (λ (k : g.level.0 ≤ p). rw (turn-free E t p g r h k) (known-free r h k q))
        (λ (k : p < g.level.0). rw (turn-broken E t p g r h k) (known-broken r k q))
        (le-or-lt g.level.0 p))
        (le-or-lt g.end.0 t)

  known-search : (f : List BookingSegment) (a : ℕ) (r : Run) → lo ≤ a → Cover a hi f → all_of filled f ≡ true → ((u : ℕ) → a ≤ u → level u ≡ level_at f u)
      → Known a r → Known hi (search_of E t p f r)
  unfolding Cover search_of
  known-search [] a r h c n v q = rw c at q
  known-search (g ∷ f) a r h c n v q =
      let some : g.start.0 < g.end.0 = ltb-true _ _ (all_head filled g f n) in
      known-search f g.end.0 (turn_of E t p g r) (omega (arith, c.0)) c.3 (all_tail filled g f n)
      (λ (u : ℕ) (x : g.end.0 ≤ u). v u (omega (arith, c.0)) ∙ level-past g f u x)
      (known-turn g (omega (arith, c.0)) some (cover-forth g.end.0 hi f c.3)
      (λ (u : ℕ) (x : g.start.0 ≤ u) (y : u < g.end.0). v u (omega (arith, c.0)) ∙ level_in g f u x y) r (rw c.0 q))

  -- when all has been looked at, a run under way has an end past the window, which the rule does not give
  tells : (r : Run) → Known hi r → Tells Can r
  unfolding Known Tells
  tells (Break run) q = q
  tells (Continue (Some run)) q = absurd (omega (arith, q.ahead, rule.by run.start.0 run.end q.free.ends))
  tells (Continue None) q = λ (s : ℕ) (z : Can s). omega (arith, q s z, z.inside.1)

pub search-tells : (E : ℕ → Option Date) (lo hi t p : ℕ) (f : List BookingSegment) → Orderly E hi → cover_ok lo hi f ≡ true → all_of filled f ≡ true
    → Tells (Start E (λ (u : ℕ). level_at f u ≤ p) lo hi t) (search_of E t p f (Continue None))
unfolding Known
search-tells E lo hi t p f rule c n =
    tells E (level_at f) lo hi t p rule (search_of E t p f (Continue None))
    (known-search E (level_at f) lo hi t p rule f lo (Continue None) (omega arith) (cover-of lo hi f c) n (λ (u : ℕ) (x : lo ≤ u). refl)
    (λ (u : ℕ) (z : Start E (λ (u : ℕ). level_at f u ≤ p) lo hi t u). z.inside.0))
