-- What may be used of the end rule, in every edition: where an end lies, how near its capacity is to the size, that it is monotone, and that what follows does not matter.
use Rattle.std.specs.Prelude.{Some, None}
use Prim.Native.Nat.{ℕ, zero, suc, ◌+◌, ◌-◌, ◌<◌, ◌≤◌}
use mathlib.Core.Bool.{Bool, true, false}
use mathlib.Core.Path.{◌≡◌, refl, sym, ap, ◌∙◌}
use mathlib.Core.List.{List, [], ◌∷◌}
use mathlib.Core.Logic.{⊎_elim, ◌⊎◌, inl, inr}
use native.Mathlib.Omega.{arith}
use lib.Dec.{leb, eqb}
use borrow.Author.Tests.{leb-true, le-leb, eq-eqb, ne_eqb}
use Rattle.units.specs.declared.Date.{Date}
use Rattle.units.specs.Logic.{pick}
use Rattle.units.proofs.Numbers.{le-or-lt, eq-or-ne}
use Rattle.segmentation.specs.declared.VolumeSegment.{VolumeSegment}
use Rattle.segmentation.specs.Capacity.{rate_at, cap_of, capacity, top_of}
use Rattle.segmentation.specs.End.{Reach, close_of, round_of, by_deadline, end_given, end_of}
use Rattle.segmentation.proofs.Capacity.{rate-top, cap-zero, cap-none, cap-same, cap-split}
use Rattle.segmentation.proofs.Reach.{Reached, first-low, first-unique, Found, found, lost, reach-is, end_by, end-never}

-- in edition 2 the size is the lesser, else the capacity
abbrev pub lesser : ℕ → ℕ → ℕ → ℕ
lesser k c v = pick (eqb k 2) v c

abbrev pub greater : ℕ → ℕ → ℕ → ℕ
greater k c v = pick (eqb k 2) c v

-- the lesser falls below the greater by less than the highest rate
abbrev pub Near : ℕ → ℕ → ℕ → ℕ → Type 0
Near k r c v = (lesser k c v ≤ greater k c v) × (greater k c v ≤ lesser k c v + (r - 1))

-- an end e of a send of size v from s on, by d, where r is the highest rate
pub record Ends (k : ℕ) (l : List VolumeSegment) (r s v d e : ℕ) : Type 0 where
  pub forth : s ≤ e
  pub by : e ≤ d
  pub near : Near k r (capacity l s e) v

module _ (k r c v : ℕ) where
  pub near_first : (k ≡ 2 → ⊥) → Near k r c v → (c ≤ v) × (v ≤ c + (r - 1))
  near_first one h = rw (ne_eqb k 2 one) at h

  pub near-second : k ≡ 2 → Near k r c v → (v ≤ c) × (c ≤ v + (r - 1))
  near-second two h = rw (eq-eqb k 2 two) at h

-- e is the first tick, rounded
record Rounds (k : ℕ) (l : List VolumeSegment) (a v d e : ℕ) : Type 0 where
  tick : ℕ
  within : tick ≤ close_of a l - a
  first : Reached l a v tick
  is : e ≡ round_of k (cap_of l a tick) v (a + tick)
  by : e ≤ d

no_end : (e : Date) → None ≡ Some e → ⊥
no_end e h = let z : ◌≡◌ {A = ℕ} 0 1 = cc in omega arith

by-at : (c : Bool) (u : ℕ) (e : Date) → pick c (Some (record { 0 = u })) None ≡ Some e → (c ≡ true) × (u ≡ e.0)
by-at true u e h = let q : u ≡ e.0 = cc in (refl, q)
by-at false u e h = absurd (no_end e h)

module _ (k : ℕ) (l : List VolumeSegment) (a v d : ℕ) where
  found-rounds : (r : Reach) (e : Date) → Found l a v (close_of a l - a) r → end_given k l a v d r ≡ Some e → Rounds k l a v d e.0
  found-rounds r e (found m le h q) z =
      let x = by-at (leb (round_of k (cap_of l a m) v (a + m)) d) (round_of k (cap_of l a m) v (a + m)) e (sym (end_by k l a v d m r q) ∙ z) in
      let at : round_of k (cap_of l a m) v (a + m) ≤ d = leb-true _ _ x.0 in
      record { tick = m; within = le; first = h; is = sym x.1; by = rw x.1 at at }
  found-rounds r e (lost f q) z = absurd (no_end e (sym (end-never k l a v d r q) ∙ z))

  end-rounds : (e : Date) → end_of k l a v d ≡ Some e → Rounds k l a v d e.0
  unfolding end_of
  end-rounds e z = found-rounds _ e (reach-is l a v (close_of a l - a)) z

module _ (k c v u : ℕ) where
  -- edition 2: the tick itself
  round-second : k ≡ 2 → round_of k c v u ≡ u
  round-second two = rw (eq-eqb k 2 two)

  -- edition 1: the tick itself where the capacity there is the size, else the one before
  round-first : (k ≡ 2 → ⊥) → ((c ≡ v) × (round_of k c v u ≡ u)) ⊎ ((c ≡ v → ⊥) × (round_of k c v u ≡ u - 1))
  round-first one =
      ⊎_elim
      (λ (e : c ≡ v). inl (e, rw (ne_eqb k 2 one, eq-eqb c v e)))
      (λ (e : c ≡ v → ⊥). inr (e, rw (ne_eqb k 2 one, ne_eqb c v e)))
      (eq-or-ne c v)

  -- in both where the capacity there is the size
  round_same : c ≡ v → round_of k c v u ≡ u
  round_same e =
      ⊎_elim (λ (two : k ≡ 2). round-second two) (λ (one : k ≡ 2 → ⊥). rw (ne_eqb k 2 one, eq-eqb c v e)) (eq-or-ne k 2)

  round-near : (round_of k c v u ≤ u) × (u ≤ round_of k c v u + 1)
  round-near =
      ⊎_elim
      (λ (two : k ≡ 2). let e = round-second two in (omega (arith, e), omega (arith, e)))
      (λ (one : k ≡ 2 → ⊥).
      ⊎_elim (λ w. (omega (arith, w.1), omega (arith, w.1))) (λ w. (omega (arith, w.1), omega (arith, w.1))) (round-first one))
      (eq-or-ne k 2)

cap-last : (l : List VolumeSegment) (a n : ℕ) → 0 < n → cap_of l a n ≡ cap_of l a (n - 1) + rate_at l (a + (n - 1))
unfolding cap_of
cap-last l a zero p = absurd (omega arith)
cap-last l a (suc n) p = let e : suc n - 1 ≡ n = omega arith in rw e

module _ (l : List VolumeSegment) (a v : ℕ) (pos : 0 < v) where
  -- the first tick is past the start
  tick-pos : (n : ℕ) → Reached l a v n → 0 < n
  tick-pos n h =
      ⊎_elim
      (λ (z : n ≤ 0). let e : n ≡ 0 = omega arith in absurd (omega (arith, rw e at h.reaches, cap-zero l a)))
      (λ (z : 0 < n). z)
      (le-or-lt n 0)

  module _ (k d : ℕ) (e : Date) (z : end_of k l a v d ≡ Some e) where
    abbrev q : Rounds k l a v d e.0
    q = end-rounds k l a v d e z

    -- the capacity one tick before, and what the last tick adds
    last : (cap_of l a (q.tick - 1) < v) × (v ≤ cap_of l a q.tick) × (cap_of l a q.tick ≤ cap_of l a (q.tick - 1) + top_of l)
    last =
        let p : 0 < q.tick = tick-pos q.tick q.first in (
          q.first.before (q.tick - 1) (omega arith),
          q.first.reaches,
          omega (arith, cap-last l a q.tick p, rate-top l (a + (q.tick - 1))),
        )

    -- the end is so many ticks after the start
    capacity-at : (n : ℕ) → e.0 ≡ a + n → capacity l a e.0 ≡ cap_of l a n
    capacity-at n h = let x : e.0 - a ≡ n = omega arith in rw x

    ends-second : k ≡ 2 → Ends k l (top_of l) a v d e.0
    ends-second two =
        let at : e.0 ≡ a + q.tick = q.is ∙ round-second k _ v _ two in
        let same = capacity-at q.tick at in
        record { forth = omega arith; by = q.by; near = rw (eq-eqb k 2 two, same) (omega (arith, last), omega (arith, last)) }

    ends-first : (k ≡ 2 → ⊥) → Ends k l (top_of l) a v d e.0
    ends-first one =
        let p : 0 < q.tick = tick-pos q.tick q.first in
        ⊎_elim
        (λ (w : (cap_of l a q.tick ≡ v) × (round_of k (cap_of l a q.tick) v (a + q.tick) ≡ a + q.tick)).
        let at : e.0 ≡ a + q.tick = q.is ∙ w.1 in
        let same = capacity-at q.tick at in
        record { forth = omega arith; by = q.by; near = rw (ne_eqb k 2 one, same) (omega (arith, w.0), omega (arith, w.0)) })
        (λ (w : (cap_of l a q.tick ≡ v → ⊥) × (round_of k (cap_of l a q.tick) v (a + q.tick) ≡ a + q.tick - 1)).
        let at : e.0 ≡ a + (q.tick - 1) = omega (arith, q.is, w.1) in
        let same = capacity-at (q.tick - 1) at in
        let other : cap_of l a q.tick ≡ v → ⊥ = w.0 in
        record { forth = omega arith; by = q.by; near = rw (ne_eqb k 2 one, same) (omega (arith, last), omega (arith, last)) })
        (round-first k (cap_of l a q.tick) v (a + q.tick) one)

    pub end-ends : Ends k l (top_of l) a v d e.0
    end-ends = ⊎_elim ends-second ends-first (eq-or-ne k 2)

    -- an end lies in the window
    pub end-inside : e.0 ≤ close_of a l
    end-inside =
        omega (arith, q.is, q.within, tick-pos q.tick q.first, round-near k (cap_of l a q.tick) v (a + q.tick))

    -- in edition 2 a send has a length
    pub end_after : k ≡ 2 → a < e.0
    end_after two = omega (arith, q.is ∙ round-second k _ v _ two, tick-pos q.tick q.first)

-- a later tick is rounded to no sooner a one
round-order : (k c v u b w t : ℕ) → u ≤ t → (u ≡ t → c ≡ v → b ≡ w) → round_of k c v u ≤ round_of k b w t
round-order k c v u b w t le f =
    ⊎_elim
    (λ (two : k ≡ 2). omega (arith, round-second k c v u two, round-second k b w t two))
    (λ (one : k ≡ 2 → ⊥).
    ⊎_elim
    (λ (h : t ≤ u).
    ⊎_elim
    (λ (x : (c ≡ v) × (round_of k c v u ≡ u)). omega (arith, x.1, round_same k b w t (f (omega arith) x.0)))
    (λ (x : (c ≡ v → ⊥) × (round_of k c v u ≡ u - 1)). omega (arith, x.1, round-near k b w t))
    (round-first k c v u one))
    (λ (h : u < t). omega (arith, round-near k c v u, round-near k b w t))
    (le-or-lt t u))
    (eq-or-ne k 2)

-- a larger size ends no sooner
pub end-monotone-size : (k : ℕ) (l : List VolumeSegment) (a v w d d' : ℕ) (e f : Date) → v ≤ w → end_of k l a v d ≡ Some e → end_of k l a w d' ≡ Some f → e.0 ≤ f.0
end-monotone-size k l a v w d d' e f le h g =
    let p = end-rounds k l a v d e h in
    let q = end-rounds k l a w d' f g in
    let order : p.tick ≤ q.tick = first-low l a v p.tick q.tick p.first (omega (arith, q.first.reaches)) in
    let round = round-order k (cap_of l a p.tick) v (a + p.tick) (cap_of l a q.tick) w (a + q.tick) (omega arith)
    (λ x y. let same : p.tick ≡ q.tick = omega (arith, x) in omega (arith, y, q.first.reaches, ap (λ (t : ℕ). cap_of l a t) same)) in
    omega (arith, p.is, q.is, round)

-- from an earlier start on
module _ (l : List VolumeSegment) (a b v : ℕ) (le : a ≤ b) where
  -- the capacity up to a tick is no less
  cap-sooner : (n : ℕ) → cap_of l a ((b - a) + n) ≡ cap_of l a (b - a) + cap_of l b n
  cap-sooner n = let e : a + (b - a) ≡ b = omega arith in rw (cap-split l a (b - a) n, e)

  -- a later start ends no sooner
  pub end-monotone-start : (k d d' : ℕ) (e f : Date) → end_of k l a v d ≡ Some e → end_of k l b v d' ≡ Some f → e.0 ≤ f.0
  end-monotone-start k d d' e f h g =
      let p = end-rounds k l a v d e h in
      let q = end-rounds k l b v d' f g in
      let cap = cap-sooner q.tick in
      let order : p.tick ≤ (b - a) + q.tick = first-low l a v p.tick ((b - a) + q.tick) p.first (omega (arith, q.first.reaches)) in
      let round = round-order k (cap_of l a p.tick) v (a + p.tick) (cap_of l b q.tick) v (b + q.tick) (omega arith)
      (λ x y.
      let same : p.tick ≡ (b - a) + q.tick = omega (arith, x) in
      omega (arith, y, q.first.reaches, ap (λ (t : ℕ). cap_of l a t) same)) in
      omega (arith, p.is, q.is, round)

-- The end of the window is the same from every start.
close-same : (l : List VolumeSegment) (a b n : ℕ) → 0 < cap_of l b n → close_of b l ≡ close_of a l
unfolding close_of
close-same [] a b n h = absurd (omega (arith, cap-none b n))
close-same (s ∷ l) a b n h = refl

module _ (k : ℕ) (l : List VolumeSegment) (a v d : ℕ) (pos : 0 < v) (last : close_of a l ≤ d) where
  -- where the deadline leaves the whole window, no end means that the size is not reached
  found-short : (r : Reach) → Found l a v (close_of a l - a) r → end_given k l a v d r ≡ None → (m : ℕ) → m ≤ close_of a l - a → cap_of l a m < v
  found-short r (lost f e) z = f
  found-short r (found n le h e) z =
      let p : 0 < n = tick-pos l a v pos n h in
      let in-time : round_of k (cap_of l a n) v (a + n) ≤ d = omega (arith, round-near k (cap_of l a n) v (a + n)) in
      absurd (no_end (record { 0 = round_of k (cap_of l a n) v (a + n) }) (sym z ∙ end_by k l a v d n r e ∙ rw (le-leb _ _ in-time)))

  end_short : end_of k l a v d ≡ None → (m : ℕ) → m ≤ close_of a l - a → cap_of l a m < v
  unfolding end_of
  end_short z = found-short _ (reach-is l a v (close_of a l - a)) z

  module _ (z : end_of k l a v d ≡ None) (b d' : ℕ) (le : a ≤ b) where
    found_none : (r : Reach) → Found l b v (close_of b l - b) r → end_given k l b v d' r ≡ None
    found_none r (lost f e) = end-never k l b v d' r e
    found_none r (found n in-it h e) =
        let p : 0 < n = tick-pos l b v pos n h in
        let reaches : v ≤ cap_of l b n = h.reaches in
        let same : close_of b l ≡ close_of a l = close-same l a b n (omega arith) in
        absurd (omega (arith, cap-sooner l a b v le n, end_short z ((b - a) + n) (omega arith)))

    -- then there is none from a later start either
    pub end-none-start : end_of k l b v d' ≡ None
    unfolding end_of
    end-none-start = found_none _ (reach-is l b v (close_of b l - b))

-- What follows an end does not matter to it: where another window is no shorter and has the same rates up to the end, its end is the same.
module _ (k : ℕ) (l m : List VolumeSegment) (a v d : ℕ) (longer : close_of a l ≤ close_of a m) (e : Date)
    (alike : (t : ℕ) → a ≤ t → t ≤ e.0 → rate_at l t ≡ rate_at m t) (z : end_of k l a v d ≡ Some e) where
  abbrev was : Rounds k l a v d e.0
  was = end-rounds k l a v d e z

  cap-alike : (n : ℕ) → n ≤ was.tick → cap_of l a n ≡ cap_of m a n
  cap-alike n le = cap-same l m a n (λ t x y. alike t x (omega (arith, was.is, round-near k (cap_of l a was.tick) v (a + was.tick))))

  first_alike : Reached m a v was.tick
  first_alike =
      record {
        reaches = omega (arith, was.first.reaches, cap-alike was.tick (omega arith));
        before = λ n lt. omega (arith, was.first.before n lt, cap-alike n (omega arith));
      }

  found_alike : (r : Reach) → Found m a v (close_of a m - a) r → end_given k m a v d r ≡ Some e
  found_alike r (found n le h q) =
      end_by k m a v d n r q
      ∙ ap (λ (x : ℕ). by_deadline d (round_of k (cap_of m a x) v (a + x))) (first-unique m a v n was.tick h first_alike)
      ∙ ap (λ (c : ℕ). by_deadline d (round_of k c v (a + was.tick))) (sym (cap-alike was.tick (omega arith)))
      ∙ ap (by_deadline d) (sym was.is)
      ∙ rw (le-leb _ _ was.by)
  found_alike r (lost f q) = absurd (omega (arith, f was.tick (omega (arith, was.within)), first_alike.reaches))

  pub end-alike : end_of k m a v d ≡ Some e
  unfolding end_of
  end-alike = found_alike _ (reach-is m a v (close_of a m - a))
