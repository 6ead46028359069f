-- The search finds the run of the first listed segment from which one fits, and none exactly if there is no such segment; for any end rule by which a later start ends no sooner.
use Prim.Native.Nat.{ℕ, ◌<◌, ◌≤◌, max}
use mathlib.Core.Bool.{true}
use mathlib.Core.Path.{◌≡◌, refl, sym, ap, ◌∙◌}
use mathlib.Core.List.{List, [], ◌∷◌}
use mathlib.Core.Logic.{⊎_elim, ◌⊎◌, inl, inr}
use native.Mathlib.Omega.{arith}
use Rattle.units.specs.declared.Date.{Date}
use Rattle.units.specs.declared.Interval.{Interval}
use Rattle.units.specs.Answer.{interval}
use Rattle.units.proofs.Numbers.{le-or-lt}
use Rattle.bookings.specs.declared.BookingSegment.{BookingSegment}
use Rattle.std.specs.declared.ops.ControlFlow.TheVariants.{Continue, Break}
use Rattle.bookings.specs.Search.{Run}
use Rattle.std.specs.Prelude.{Option, Some, None}
use Rattle.bookings.specs.Listed.{cover_ok}
use Rattle.bookings.specs.Search.{reach_of, begin_of, broken_of, free_of, turn_of, search_of}
use Rattle.bookings.specs.Fits.{Reaches, Fits, Unfit, FirstFit, NoFit, FindsFirst}
use Rattle.bookings.proofs.Values.{level-below, below-level}
use Rattle.bookings.proofs.CoverLaws.{Cover, cover-of}
use Rattle.bookings.proofs.SearchLaws.{reach_now, reach-later, turn-skip, turn-broken, turn-free, turn-going, sent-stays}

-- all that is asked of the end rule: a later start ends no sooner
abbrev pub Later : (ℕ → Option Date) → Type 0
Later E = (s u : ℕ) (d e : Date) → s ≤ u → E s ≡ Some d → E u ≡ Some e → d.0 ≤ e.0

-- Which segments reach a date.
module _ (p e : ℕ) (g : BookingSegment) (f : List BookingSegment) where
  reaches-now : g.level.0 ≤ p → e ≤ g.end.0 → Reaches p e (g ∷ f)
  unfolding Reaches
  reaches-now h k = (level-below p g.level.0 h, inl (omega arith))

  reaches-on : g.level.0 ≤ p → Reaches p e f → Reaches p e (g ∷ f)
  unfolding Reaches
  reaches-on h k = (level-below p g.level.0 h, inr k)

  -- not over a segment with a value of at least the priority
  reaches-below : Reaches p e (g ∷ f) → g.level.0 ≤ p
  unfolding Reaches
  reaches-below h = below-level p g.level.0 h.0

  -- what ends before the date leaves it to the rest
  reaches-rest : g.end.0 < e → Reaches p e (g ∷ f) → Reaches p e f
  unfolding Reaches
  reaches-rest k h = ⊎_elim (λ x. absurd (omega (arith, x))) (λ (x : Reaches p e f). x) h.1

-- and each earlier date
reaches-sooner : (p d e : ℕ) (f : List BookingSegment) → d ≤ e → Reaches p e f → Reaches p d f
unfolding Reaches
reaches-sooner p d e [] h k = k
reaches-sooner p d e (g ∷ f) h k =
    (k.0, ⊎_elim (λ x. inl (omega (arith, x))) (λ (x : Reaches p e f). inr (reaches-sooner p d e f h x)) k.1)

module _ (E : ℕ → Option Date) (t p : ℕ) where
  -- what an outcome says of the segments
  unfoldable Tells : List BookingSegment → Run → Type 0
  Tells f (Break send) = FirstFit E t p f send
  Tells f (Continue (Some run)) = NoFit E t p f
  Tells f (Continue None) = NoFit E t p f

  module _ (g : BookingSegment) (f : List BookingSegment) where
    -- a segment from which no run fits is passed over
    tells-on : Unfit E t p g f → (x : Run) → Tells f x → Tells (g ∷ f) x
    unfolding Tells FirstFit NoFit
    tells-on n (Break send) q = inr (n, q)
    tells-on n (Continue (Some run)) q = (n, q)
    tells-on n (Continue None) q = (n, q)

    -- one from which a run fits is the first
    tells-here : (send : Interval) → Fits E t p g f send → (x : Run) → x ≡ Break send → Tells (g ∷ f) x
    unfolding Tells FirstFit
    tells-here send q x e = rw e (inl q)

    -- it ends at or before the asked time; its value is at least the priority; the run has no end
    unfit-skip : g.end.0 ≤ t → Unfit E t p g f
    unfit-skip h send q = omega (arith, q.late)

    unfit-above : p < g.level.0 → Unfit E t p g f
    unfit-above h send q = omega (arith, reaches-below p send.end.0 g f q.reaches)

    unfit-none : E (max g.start.0 t) ≡ None → Unfit E t p g f
    unfit-none h send q = let z : ◌≡◌ {A = ℕ} 0 1 = cc in omega arith

    -- a run that began here or before does not reach its end: one that begins here ends no sooner
    unfit-under : Later E → (run : Interval) → run.start.0 ≤ max g.start.0 t → E run.start.0 ≡ Some run.end → (Reaches p run.end.0 (g ∷ f) → ⊥) → Unfit E t p g f
    unfit-under later run le h n send q =
        let order : run.end.0 ≤ send.end.0 = later run.start.0 send.start.0 run.end send.end (omega (arith, q.begins)) h q.ends in
        n (reaches-sooner p run.end.0 send.end.0 (g ∷ f) order q.reaches)

  -- the outcome with a run under way: the run, if it reaches its end; otherwise what the outcome without it would say
  abbrev Goes : List BookingSegment → Interval → Run → Type 0
  Goes f run x = ((Reaches p run.end.0 f) × (x ≡ Break run)) ⊎ ((Reaches p run.end.0 f → ⊥) × Tells f x)

  -- at the date a, past the asked time, a run by the rule is under way
  record Under (a : ℕ) (run : Interval) : Type 0 where
    past : t < a
    begun : run.start.0 ≤ a
    ends : E run.start.0 ≡ Some run.end

  -- what the search from the date a on finds, in either state
  record Known (a : ℕ) (f : List BookingSegment) : Type 0 where
    idle : Tells f (search_of E t p f (Continue None))
    going : (run : Interval) → Under a run → Goes f run (search_of E t p f (Continue (Some run)))

  -- no segment is left
  known-end : (a : ℕ) → Known a []
  unfolding Tells Reaches NoFit search_of
  known-end a = record { idle = tt; going = λ run u. inr (λ x. x, tt) }

  module _ (later : Later E) where
    module _ (g : BookingSegment) (f : List BookingSegment) (forth : g.start.0 ≤ g.end.0) (rest : Known g.end.0 f) where
      -- a run that goes on over the segment
      goes_over : (run : Interval) → g.level.0 ≤ p → Under g.end.0 run → run.start.0 ≤ max g.start.0 t
          → Goes (g ∷ f) run (search_of E t p f (reach_of g.end.0 run))
      goes_over run k u le =
          ⊎_elim
          (λ (h : run.end.0 ≤ g.end.0).
          inl (reaches-now p run.end.0 g f k h, ap (search_of E t p f) (reach_now g.end.0 run h) ∙ sent-stays E t p f run))
          (λ (h : g.end.0 < run.end.0).
          rw (reach-later g.end.0 run h)
          (⊎_elim
          (λ w. inl (reaches-on p run.end.0 g f k w.0, w.1))
          (λ w.
          let short : Reaches p run.end.0 (g ∷ f) → ⊥ = λ x. w.0 (reaches-rest p run.end.0 g f h x) in
          inr (short, tells-on g f (unfit-under g f later run le u.ends short) _ w.1))
          (rest.going run u)))
          (le-or-lt run.end.0 g.end.0)

      -- a run that begins in the segment
      tells-begin : t < g.end.0 → g.level.0 ≤ p → (x : Option Date) → E (max g.start.0 t) ≡ x
          → Tells (g ∷ f) (search_of E t p f (begin_of g.end.0 (max g.start.0 t) x))
      unfolding begin_of
      tells-begin h k None e = tells-on g f (unfit-none g f e) _ rest.idle
      tells-begin h k (Some d) e =
          let run = interval (max g.start.0 t) d.0 in
          ⊎_elim
          (λ w. tells-here g f run (record { late = h; begins = refl; ends = e; reaches = w.0 }) _ w.1)
          (λ w. w.1)
          (goes_over run k (record { past = h; begun = omega arith; ends = e }) (omega arith))

      tells-turn : Tells (g ∷ f) (search_of E t p f (turn_of E t p g (Continue None)))
      unfolding free_of broken_of
      tells-turn =
          ⊎_elim
          (λ (h : g.end.0 ≤ t). rw (turn-skip E t p g (Continue None) h) (tells-on g f (unfit-skip g f h) _ rest.idle))
          (λ (h : t < g.end.0).
          ⊎_elim
          (λ (k : g.level.0 ≤ p). rw (turn-free E t p g (Continue None) h k) (tells-begin h k (E (max g.start.0 t)) refl))
          (λ (k : p < g.level.0). rw (turn-broken E t p g (Continue None) h k) (tells-on g f (unfit-above g f k) _ rest.idle))
          (le-or-lt g.level.0 p))
          (le-or-lt g.end.0 t)

      goes-turn : (run : Interval) → Under g.start.0 run → Goes (g ∷ f) run (search_of E t p f (turn_of E t p g (Continue (Some run))))
      unfolding broken_of
      goes-turn run u =
          let past : t < g.end.0 = omega (arith, u.past) in
          ⊎_elim
          (λ (k : g.level.0 ≤ p).
          rw (turn-going E t p g (Continue (Some run)) past k run refl)
          (goes_over run k (record { past = past; begun = omega (arith, u.begun); ends = u.ends }) (omega (arith, u.begun))))
          (λ (k : p < g.level.0).
          rw (turn-broken E t p g (Continue (Some run)) past k)
          (inr (λ (x : Reaches p run.end.0 (g ∷ f)). omega (arith, reaches-below p run.end.0 g f x), tells-on g f (unfit-above g f k) _ rest.idle)))
          (le-or-lt g.level.0 p)

    -- segment by segment, from the last
    known : (f : List BookingSegment) (a b : ℕ) → Cover a b f → Known a f
    unfolding Cover search_of
    known [] a b c = known-end a
    known (g ∷ f) a b c =
        let rest = known f g.end.0 b c.3 in
        record {
          idle = tells-turn g f c.1 rest;
          going = λ run u. goes-turn g f c.1 rest run (record { past = omega (arith, u.past, c.0); begun = omega (arith, u.begun, c.0); ends = u.ends });
        }

  -- from one segment one run fits
  fits_one : (g : BookingSegment) (f : List BookingSegment) (a b : Interval) → Fits E t p g f a → Fits E t p g f b → a ≡ b
  fits_one g f a b x y =
      let from : a.start.0 ≡ b.start.0 = x.begins ∙ sym y.begins in
      let to : a.end.0 ≡ b.end.0 = cc in
      ap (λ (s : ℕ). interval s a.end.0) from ∙ ap (λ (e : ℕ). interval b.start.0 e) to

  -- so there is one first
  first_one : (f : List BookingSegment) (a b : Interval) → FirstFit E t p f a → FirstFit E t p f b → a ≡ b
  unfolding FirstFit
  first_one [] a b x y = absurd x
  first_one (g ∷ f) a b (inl x) (inl y) = fits_one g f a b x y
  first_one (g ∷ f) a b (inl x) (inr y) = absurd (y.0 a x)
  first_one (g ∷ f) a b (inr x) (inl y) = absurd (x.0 b y)
  first_one (g ∷ f) a b (inr x) (inr y) = first_one f a b x.1 y.1

  -- and none where no run fits
  none_first : (f : List BookingSegment) (send : Interval) → NoFit E t p f → FirstFit E t p f send → ⊥
  unfolding FirstFit NoFit
  none_first [] send n x = x
  none_first (g ∷ f) send n (inl x) = n.0 send x
  none_first (g ∷ f) send n (inr x) = none_first f send n.1 x.1

  -- nothing found
  finds-none : (f : List BookingSegment) (x : Run) → ((send : Interval) → x ≡ Break send → ⊥) → NoFit E t p f → FindsFirst E t p f x
  finds-none f x nothing n =
      record { found = λ send. (λ e. absurd (nothing send e), λ q. absurd (none_first f send n q)); none = (λ y. n, λ y. nothing) }

  finds : (f : List BookingSegment) (x : Run) → Tells f x → FindsFirst E t p f x
  unfolding Tells
  finds f (Break run) q =
      record {
        found = λ send. (λ e. let same : run ≡ send = cc in rw same at q, λ w. ap Break (first_one f run send q w));
        none = (λ y. absurd (y run refl), λ n. absurd (none_first f run n q));
      }
  finds f (Continue (Some run)) q = finds-none f (Continue (Some run)) (λ send e. let z : ◌≡◌ {A = ℕ} 0 1 = cc in omega arith) q
  finds f (Continue None) q = finds-none f (Continue None) (λ send e. let z : ◌≡◌ {A = ℕ} 0 1 = cc in omega arith) q

-- on a list that covers a window
pub search-first : (E : ℕ → Option Date) (t p lo hi : ℕ) (f : List BookingSegment) → Later E → cover_ok lo hi f ≡ true → FindsFirst E t p f (search_of E t p f (Continue None))
search-first E t p lo hi f later c = finds E t p f (search_of E t p f (Continue None)) (known E t p later f lo hi (cover-of lo hi f c)).idle
