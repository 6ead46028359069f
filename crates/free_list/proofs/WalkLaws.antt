-- Laws of the walk: what a rate segment adds, the ways of a turn, and what a turn keeps.
use Rattle.std.specs.Prelude.{Option, Some, None}
use Prim.Native.Nat.{ℕ, zero, suc, ◌+◌, ◌-◌, ◌*◌, ◌<◌, ◌≤◌, min, max}
use mathlib.Core.Bool.{true, false}
use mathlib.Core.Path.{◌≡◌, refl, sym, ap, ◌∙◌}
use mathlib.Core.List.{List, [], ◌∷◌}
use mathlib.Core.Logic.{⊎_elim}
use native.Mathlib.Nat.{mul-zero, mul-le-mul_left}
use native.Mathlib.Omega.{arith}
use lib.Dec.{ltb}
use lib.ListN.{length, drop, get_or, drop_of_length-le}
use borrow.Author.Tests.{le-leb, lt-leb, lt-ltb, le-ltb, ltb-true, ltb-false}
use Rattle.units.specs.Limits.{date_max, volume_max, segments_max}
use Rattle.units.specs.declared.Date.{Date}
use Rattle.units.specs.Logic.{pick}
use Rattle.units.proofs.Logic.{pick-keeps}
use Rattle.units.proofs.Loop.{at-whole}
use Rattle.units.proofs.Numbers.{le-or-lt}
use Rattle.segmentation.specs.declared.VolumeSegment.{VolumeSegment}
use Rattle.segmentation.specs.Capacity.{rate_of, cap_of, capacity}
use Rattle.segmentation.specs.End.{close_of}
use Rattle.segmentation.specs.Granted.{SegOk, Run}
use Rattle.segmentation.proofs.Capacity.{cap-in, cap-past, capacity-split, capacity-none}
use Rattle.free_list.specs.declared.walk.Walk.{Walk}
use Rattle.free_list.specs.Listed.{segment_ok, list_ok}
use Rattle.free_list.specs.Room.{room_of}
use Rattle.free_list.specs.Granted.{Window, start_of, found_of, on_of, done_of, turn_of, next_of}
use Rattle.free_list.proofs.ListedLaws.{segment-early, segment-back, segment-late, segment-is, list-stop, list-go, list-none}
use Rattle.free_list.proofs.RoomLaws.{room-none, room_cons}

-- The ways of a turn.
pick-cases : (P : Option Walk → Type 0) (x y : Option Walk) (a b : ℕ) → (a < b → P x) → (b ≤ a → P y) → P (pick (ltb a b) x y)
pick-cases P x y a b f g = pick-keeps P (ltb a b) x y (λ e. f (ltb-true _ _ e)) (λ e. g (ltb-false _ _ e))

module _ (w : Walk) (g : VolumeSegment) (s : VolumeSegment) (hi : ℕ) where
  turn-cases : (P : Option Walk → Type 0)
      → (g.start.0 < w.low.0 → P None)
      → (w.low.0 ≤ g.start.0 → g.end.0 < g.start.0 → P None)
      → (w.low.0 ≤ g.start.0 → g.start.0 ≤ g.end.0 → hi < g.end.0 → P None)
      → (w.low.0 ≤ g.start.0 → g.start.0 ≤ g.end.0 → g.end.0 ≤ hi → w.hand.end.0 < g.end.0 → P (Some (on_of w g s)))
      → (w.low.0 ≤ g.start.0 → g.start.0 ≤ g.end.0 → g.end.0 ≤ hi → g.end.0 ≤ w.hand.end.0 → found_of w g < g.volume.0 → P None)
      → (w.low.0 ≤ g.start.0 → g.start.0 ≤ g.end.0 → g.end.0 ≤ hi → g.end.0 ≤ w.hand.end.0 → g.volume.0 ≤ found_of w g → P (Some (done_of w g)))
      → P (turn_of w g s hi)
  unfolding turn_of
  turn-cases P f1 f2 f3 f4 f5 f6 =
      pick-cases P _ _ g.start.0 w.low.0 f1
      (λ h1. pick-cases P _ _ g.end.0 g.start.0 (f2 h1)
      (λ h2. pick-cases P _ _ hi g.end.0 (f3 h1 h2)
      (λ h3. pick-cases P _ _ w.hand.end.0 g.end.0 (f4 h1 h2 h3)
      (λ h4. pick-cases P _ _ (found_of w g) g.volume.0 (f5 h1 h2 h3 h4) (f6 h1 h2 h3 h4)))))

pub next-on : (place m : ℕ) → place + 1 < m → next_of place m ≡ place + 1
unfolding next_of
next-on place m h = rw (lt-ltb (place + 1) m h)

pub next_last : (place m : ℕ) → m ≤ place + 1 → next_of place m ≡ place
unfolding next_of
next_last place m h = rw (le-ltb (place + 1) m h)

-- The rate segment in hand stands at its place, and what comes before it no longer counts.
pub record Stands (l : List VolumeSegment) (w : Walk) : Type 0 where
  pub seg : VolumeSegment
  pub ok : SegOk seg
  pub here : drop w.place l ≡ seg ∷ drop (w.place + 1) l
  pub starts : w.hand.start.0 ≡ seg.start.0
  pub ends : w.hand.end.0 ≡ seg.end.0
  pub rates : w.hand.rate.0 ≡ rate_of seg
  pub run : Run seg.end.0 (drop (w.place + 1) l)
  pub last : close_of seg.end.0 (drop (w.place + 1) l) ≡ close_of 0 l
  pub past : (a n : ℕ) → seg.start.0 ≤ a → cap_of l a n ≡ cap_of (drop w.place l) a n

module _ (l : List VolumeSegment) (w : Walk) (st : Stands l w) where
  seg-cap : (x y : ℕ) → w.hand.start.0 ≤ x → x ≤ y → y ≤ w.hand.end.0 → capacity l x y ≡ w.hand.rate.0 * (y - x)
  seg-cap x y h1 h2 h3 =
      let a : w.hand.start.0 ≡ st.seg.start.0 = st.starts in
      let b : w.hand.end.0 ≡ st.seg.end.0 = st.ends in
      st.past x (y - x) (omega arith)
      ∙ rw (st.here, st.rates) (cap-in st.seg _ x (y - x) (omega arith) (omega arith))

  -- what the segment in hand adds to the capacity before it
  found-is : (a b x y : ℕ) → x ≡ max a w.hand.start.0 → y ≡ min b w.hand.end.0 → w.hand.start.0 ≤ b → a ≤ b
      → capacity l a w.hand.start.0 + w.hand.rate.0 * (y - x) ≡ capacity l a y
  found-is a b x y ex ey h1 h2 =
      let some : st.seg.start.0 < st.seg.end.0 = st.ok.some in
      let sa : w.hand.start.0 ≡ st.seg.start.0 = st.starts in
      let sb : w.hand.end.0 ≡ st.seg.end.0 = st.ends in
      ⊎_elim
      (λ (h : a ≤ w.hand.start.0).
      let e : x ≡ w.hand.start.0 = omega arith in
      let c : capacity l w.hand.start.0 y ≡ w.hand.rate.0 * (y - w.hand.start.0) = seg-cap w.hand.start.0 y (omega arith) (omega arith) (omega arith) in
      rw e (omega (arith, c, capacity-split l a w.hand.start.0 y h (omega arith))))
      (λ (h : w.hand.start.0 < a).
      let e : x ≡ a = omega arith in
      let z : capacity l a w.hand.start.0 ≡ 0 = capacity-none l a w.hand.start.0 (omega arith) in
      rw e
      (⊎_elim
      (λ (k : a ≤ y). omega (arith, z, seg-cap a y (omega arith) k (omega arith)))
      (λ (k : y < a).
      let q : y - a ≡ 0 = omega arith in
      let p : w.hand.rate.0 * (y - a) ≡ 0 = rw q (mul-zero w.hand.rate.0) in
      omega (arith, z, p, capacity-none l a y (omega arith)))
      (le-or-lt a y)))
      (le-or-lt a w.hand.start.0)

  carries : w.hand.rate.0 * (w.hand.end.0 - w.hand.start.0) ≤ volume_max
  carries = rw (st.rates, st.starts, st.ends) (omega (arith, st.ok.whole, st.ok.small))

  forth : w.hand.start.0 ≤ w.hand.end.0
  forth = omega (arith, st.starts, st.ends, st.ok.some)

  stands-more : w.hand.end.0 < close_of 0 l → w.place + 1 < length l
  unfolding close_of
  stands-more h =
      ⊎_elim
      (λ (k : length l ≤ w.place + 1).
      let e : close_of st.seg.end.0 [] ≡ close_of 0 l = rw (drop_of_length-le l k) at st.last in
      absurd (omega (arith, st.ends)))
      (λ (k : w.place + 1 < length l). k)
      (le-or-lt (length l) (w.place + 1))

  -- the next segment
  stands_on : (g s : VolumeSegment) → drop (w.place + 1) l ≡ s ∷ drop (w.place + 1 + 1) l → (Stands l (on_of w g s)) × (s.start.0 ≡ w.hand.end.0)
  unfolding Run close_of
  stands_on g s e =
      let run : Run st.seg.end.0 (s ∷ drop (w.place + 1 + 1) l) = rw e at st.run in
      let some : st.seg.start.0 < st.seg.end.0 = st.ok.some in
      let at : s.start.0 ≡ st.seg.end.0 = run.0 in (
        record {
          seg = s;
          ok = run.1;
          here = e;
          starts = refl;
          ends = refl;
          rates = refl;
          run = run.2;
          last = ap (λ (k : List VolumeSegment). close_of st.seg.end.0 k) (sym e) ∙ st.last;
          past = λ a n h. st.past a n (omega arith) ∙ ap (λ (k : List VolumeSegment). cap_of k a n) st.here ∙ cap-past st.seg _ a n (omega arith);
        },
        omega (arith, st.ends),
      )

  piece-small : (x y : ℕ) → w.hand.start.0 ≤ x → y ≤ w.hand.end.0 → w.hand.rate.0 * (y - x) ≤ volume_max
  piece-small x y h k = omega (arith, mul-le-mul_left {m = y - x} {n = w.hand.end.0 - w.hand.start.0} w.hand.rate.0 (omega arith), carries)

-- The walk in the loop.
pub record Walking (l : List VolumeSegment) (f : List VolumeSegment) (from hi n : ℕ) (w : Walk) : Type 0 where
  pub le : w.i ≤ n
  pub few : w.place < segments_max
  pub small : w.sum.0 ≤ w.place * volume_max
  pub same : list_ok l from hi f ≡ list_ok l w.low.0 hi (drop w.i f)
  pub bound : w.room.0 ≤ w.i * (segments_max * volume_max)
  pub sums : room_of f ≡ w.room.0 + room_of (drop w.i f)
  pub stands : Stands l w
  pub ahead : (g : VolumeSegment) → drop w.i f ≡ g ∷ drop (w.i + 1) f → w.low.0 ≤ g.start.0 → g.start.0 ≤ g.end.0
      → (w.hand.start.0 ≤ g.end.0) × (w.sum.0 ≡ capacity l g.start.0 w.hand.start.0)

-- what a turn's answer says
abbrev pub Answer : List VolumeSegment → List VolumeSegment → ℕ → ℕ → ℕ → Walk → Option Walk → Type 0
Answer l f from hi n w (Some k) = (Walking l f from hi n k) × ((n - k.i) + (segments_max - k.place) < (n - w.i) + (segments_max - w.place))
Answer l f from hi n w None = list_ok l from hi f ≡ false

module _ (l : List VolumeSegment) (f : List VolumeSegment) (from hi n : ℕ) (w : Walk) (q : Walking l f from hi n w) where
  pub walk_end : length f ≤ w.i → list_ok l from hi f ≡ true
  walk_end h =
      q.same ∙ ap (λ (x : List VolumeSegment). list_ok l w.low.0 hi x) (drop_of_length-le f h) ∙ list-none l w.low.0 hi

  pub walk-room : length f ≤ w.i → room_of f ≡ w.room.0
  walk-room h =
      let e : room_of (drop w.i f) ≡ 0 = ap room_of (drop_of_length-le f h) ∙ room-none in
      omega (arith, q.sums, e)

  module _ (lt : w.i < n) (g s : VolumeSegment) (here : drop w.i f ≡ g ∷ drop (w.i + 1) f) where
    refuse : segment_ok l w.low.0 hi g ≡ false → list_ok l from hi f ≡ false
    refuse h = q.same ∙ ap (λ (x : List VolumeSegment). list_ok l w.low.0 hi x) here ∙ list-stop l w.low.0 hi g _ h

    module _ (h1 : w.low.0 ≤ g.start.0) (h2 : g.start.0 ≤ g.end.0) (h3 : g.end.0 ≤ hi) where
      -- the capacity found, up to the nearer of the two ends
      found : (y : ℕ) → y ≡ min g.end.0 w.hand.end.0 → found_of w g ≡ capacity l g.start.0 y
      found y e =
          let a = q.ahead g here h1 h2 in
          let c = found-is l w q.stands g.start.0 g.end.0 (max g.start.0 w.hand.start.0) (min g.end.0 w.hand.end.0) refl refl a.0 h2 in
          rw e (omega (arith, c, a.1))

      go_on : length l ≤ segments_max → hi ≡ close_of 0 l → w.hand.end.0 < g.end.0 → (w.place + 1 < length l → drop (w.place + 1) l ≡ s ∷ drop (w.place + 1 + 1) l)
          → Answer l f from hi n w (Some (on_of w g s))
      go_on sixteen top h4 next =
          let more : w.place + 1 < length l = stands-more l w q.stands (omega arith) in
          let on = stands_on l w q.stands g s (next more) in
          let at : s.start.0 ≡ w.hand.end.0 = on.1 in
          let fd : found_of w g ≡ capacity l g.start.0 s.start.0 = found s.start.0 (omega arith) in
          let pc = piece-small l w q.stands (max g.start.0 w.hand.start.0) (min g.end.0 w.hand.end.0) (omega arith) (omega arith) in (
            record {
              le = q.le;
              few = omega arith;
              small = omega (arith, pc, q.small);
              same = q.same;
              bound = q.bound;
              sums = q.sums;
              stands = on.0;
              ahead = λ k e a b.
                  let same_head : g ≡ k = cc (here, e) in
                  rw (← same_head) (omega arith, fd);
            },
            omega (arith, q.few),
          )

      go-short : g.end.0 ≤ w.hand.end.0 → found_of w g < g.volume.0 → list_ok l from hi f ≡ false
      go-short h4 h5 =
          let fd : found_of w g ≡ capacity l g.start.0 g.end.0 = found g.end.0 (omega arith) in
          refuse (segment-is l w.low.0 hi g h1 h2 h3 ∙ lt-leb _ _ (rw fd at h5))

      go-done : g.end.0 ≤ w.hand.end.0 → g.volume.0 ≤ found_of w g → Answer l f from hi n w (Some (done_of w g))
      go-done h4 h5 =
          let fd : found_of w g ≡ capacity l g.start.0 g.end.0 = found g.end.0 (omega arith) in
          let fits : segment_ok l w.low.0 hi g ≡ true = segment-is l w.low.0 hi g h1 h2 h3 ∙ le-leb _ _ (rw fd at h5) in
          let pc = piece-small l w q.stands (max g.start.0 w.hand.start.0) (min g.end.0 w.hand.end.0) (omega arith) (omega arith) in
          let on : room_of (drop w.i f) ≡ g.volume.0 + room_of (drop (w.i + 1) f) = ap room_of here ∙ room_cons g _ in
          let a = q.ahead g here h1 h2 in (
            record {
              le = omega arith;
              few = q.few;
              small = omega arith;
              same = q.same ∙ ap (λ (x : List VolumeSegment). list_ok l w.low.0 hi x) here ∙ list-go l w.low.0 hi g _ fits;
              bound = omega (arith, q.bound, q.small, q.few, pc);
              sums = omega (arith, q.sums, on);
              stands = record {
                seg = q.stands.seg;
                ok = q.stands.ok;
                here = q.stands.here;
                starts = q.stands.starts;
                ends = q.stands.ends;
                rates = q.stands.rates;
                run = q.stands.run;
                last = q.stands.last;
                past = q.stands.past;
              };
              ahead = λ k e b c. (omega (arith, a.0), sym (capacity-none l k.start.0 w.hand.start.0 (omega (arith, a.0))));
            },
            omega (arith, q.few),
          )

    pub walk_turn : length l ≤ segments_max → hi ≡ close_of 0 l → (w.place + 1 < length l → drop (w.place + 1) l ≡ s ∷ drop (w.place + 1 + 1) l)
        → Answer l f from hi n w (turn_of w g s hi)
    walk_turn sixteen top next =
        turn-cases w g s hi (Answer l f from hi n w)
        (λ h. refuse (segment-early l w.low.0 hi g h))
        (λ h k. refuse (segment-back l w.low.0 hi g h k))
        (λ h k m. refuse (segment-late l w.low.0 hi g h k m))
        (λ h k m e. go_on h k m sixteen top e next)
        (λ h k m e v. go-short h k m e v)
        (λ h k m e v. go-done h k m e v)

pub walk_first : (l k f : List VolumeSegment) (s : VolumeSegment) (low : Date) (hi n : ℕ) (w : Walk) → l ≡ s ∷ k → Window l low.0 hi
    → w ≡ start_of s low → Walking l f low.0 hi n w
unfolding Run close_of
walk_first l k f s low hi n w e win is =
    let run : Run low.0 (s ∷ k) = rw e at win.run in
    let at : s.start.0 ≡ low.0 = run.0 in
    rw (is, e)
    (record {
      le = omega arith;
      few = omega arith;
      small = omega arith;
      same = refl;
      bound = omega arith;
      sums = omega arith;
      stands = record {
        seg = s;
        ok = run.1;
        here = refl;
        starts = refl;
        ends = refl;
        rates = refl;
        run = run.2;
        last = refl;
        past = λ a n h. refl;
      };
      ahead = λ g q h1 h2. (omega arith, sym (capacity-none (s ∷ k) g.start.0 s.start.0 (omega arith)));
    })

-- Facts of the rates that the loop reads.
no-cons : {s : VolumeSegment} {k : List VolumeSegment} → [] ≡ s ∷ k → ⊥
no-cons h = let z : ◌≡◌ {A = ℕ} 0 1 = cc in omega arith

-- the window's end is the last date of its rates
pub hi-is : (l k : List VolumeSegment) (s : VolumeSegment) (lo hi : ℕ) → l ≡ s ∷ k → Window l lo hi → hi ≡ close_of 0 l
unfolding close_of
hi-is l k s lo hi e w =
    let h : close_of lo (s ∷ k) ≡ hi = rw e at w.last in
    sym h ∙ ap (λ (x : List VolumeSegment). close_of 0 x) (sym e)

pub first-ok : (l k : List VolumeSegment) (s : VolumeSegment) (lo hi : ℕ) → l ≡ s ∷ k → Window l lo hi → (SegOk s) × (s.start.0 ≡ lo)
unfolding Run
first-ok l k s lo hi e w = let r : Run lo (s ∷ k) = rw e at w.run in (r.1, r.0)

run_drop : (l k : List VolumeSegment) (a p : ℕ) (s : VolumeSegment) → Run a l → drop p l ≡ s ∷ k → SegOk s
unfolding Run
run_drop [] k a zero s r e = absurd (no-cons e)
run_drop [] k a (suc p) s r e = absurd (no-cons e)
run_drop (g ∷ ss) k a zero s r e = let q : g ≡ s = cc in rw (← q) r.1
run_drop (g ∷ ss) k a (suc p) s r e = run_drop ss k g.end.0 p s r.2 e

close-small : (l : List VolumeSegment) (a : ℕ) → Run a l → a ≤ date_max → close_of a l ≤ date_max
unfolding Run close_of
close-small [] a r h = h
close-small (s ∷ ss) a r h = close-small ss s.end.0 r.2 r.1.date

-- the window's end is a date
pub hi_small : (l k : List VolumeSegment) (s : VolumeSegment) (lo hi : ℕ) → l ≡ s ∷ k → Window l lo hi → hi ≤ date_max
hi_small l k s lo hi e w =
    let o = first-ok l k s lo hi e w in
    rw (← w.last) (close-small l lo w.run (omega (arith, o.1, o.0.some, o.0.date)))

pub stands-lt : (l : List VolumeSegment) (w : Walk) → Stands l w → w.place < length l
stands-lt l w st =
    ⊎_elim
    (λ (h : length l ≤ w.place). absurd (no-cons (sym (drop_of_length-le l h) ∙ st.here)))
    (λ (h : w.place < length l). h)
    (le-or-lt (length l) w.place)

pub next-lt : (place m : ℕ) → place < m → next_of place m < m
next-lt place m h =
    ⊎_elim
    (λ (k : m ≤ place + 1). omega (arith, next_last place m k))
    (λ (k : place + 1 < m). omega (arith, next-on place m k))
    (le-or-lt m (place + 1))

pub after : (rates : List VolumeSegment) (place : ℕ) (z : VolumeSegment) → place + 1 < length rates
    → drop (place + 1) rates ≡ get_or rates (next_of place (length rates)) z ∷ drop (place + 1 + 1) rates
after rates place z h = rw (next-on place (length rates) h) (at-whole rates (place + 1) z h)

pub seg-at : (rates : List VolumeSegment) (p a : ℕ) (z : VolumeSegment) → p < length rates → Run a rates → SegOk (get_or rates p z)
seg-at rates p a z h r = run_drop rates _ a p _ r (at-whole rates p z h)
