-- The end found segment by segment is the end in exact terms.
use Rattle.std.specs.Prelude.{Option, None}
use Rattle.units.specs.declared.Date.{Date}
use Prim.Native.Nat.{ℕ, suc, ◌+◌, ◌-◌, ◌*◌, ◌/◌, ◌<◌, ◌≤◌}
use mathlib.Core.Path.{◌≡◌, refl, sym, ap, ◌∙◌}
use mathlib.Core.List.{List, [], ◌∷◌}
use mathlib.Core.Logic.{⊎_elim}
use native.Mathlib.Nat.{suc-mul, mul_comm, mul-le-mul_left, lt_of_mul-lt-mul_left, le_of_suc-le-suc, le_refl, le-div_iff_mul-le, div-lt_iff_lt-mul, eq-or-lt_of_le}
use native.Mathlib.Omega.{arith}
use lib.Dec.{eqb}
use borrow.Author.Tests.{eq-eqb, ne_eqb}
use Rattle.units.specs.Logic.{pick}
use Rattle.units.proofs.Numbers.{le-or-lt, eq-or-ne}
use Rattle.segmentation.specs.declared.VolumeSegment.{VolumeSegment}
use Rattle.segmentation.specs.Granted.{Run, Covers, ticks_of}
use Rattle.segmentation.specs.Capacity.{rate_of, cap_of}
use Rattle.segmentation.specs.End.{Reach, close_of, round_of, by_deadline, end_given, end_of}
use Rattle.segmentation.proofs.Capacity.{cap-split, cap-flat, cap-none, cap-past, cap-in}
use Rattle.segmentation.proofs.Segment.{pos-left}
use Rattle.segmentation.proofs.Reach.{Reached, first-unique, Found, found, lost, reach-is, end_by, end-never}
use Rattle.segmentation.proofs.SegEnd.{carried_of, seg_end, seg-none, seg_skip, seg-here, seg-on}

-- an end in exact terms, with no bound on the ticks searched
pub data Exact (k : ℕ) (l : List VolumeSegment) (a v d : ℕ) (r : (Option Date)) : Type 0 where
  reached : (n : ℕ) → Reached l a v n → r ≡ by_deadline d (round_of k (cap_of l a n) v (a + n)) → Exact k l a v d r
  short : ((n : ℕ) → cap_of l a n < v) → r ≡ None → Exact k l a v d r

-- the exact terms determine the end
pub exact-unique : (k : ℕ) (l : List VolumeSegment) (a v d : ℕ) (r q : (Option Date)) → Exact k l a v d r → Exact k l a v d q → r ≡ q
exact-unique k l a v d r q (reached n h e) (reached m w f) =
    e ∙ ap (λ (x : ℕ). by_deadline d (round_of k (cap_of l a x) v (a + x))) (first-unique l a v n m h w) ∙ sym f
exact-unique k l a v d r q (reached n h e) (short w f) = absurd (omega (arith, h.reaches, w n))
exact-unique k l a v d r q (short w f) (reached n h e) = absurd (omega (arith, h.reaches, w n))
exact-unique k l a v d r q (short w f) (short h e) = f ∙ sym e

-- The bounded search of `end_of` misses no tick.
close-covers : (f a : ℕ) (l : List VolumeSegment) → f ≤ a → close_of f l ≤ close_of a l
unfolding close_of
close-covers f a [] h = h
close-covers f a (s ∷ l) h = omega arith

module _ (l : List VolumeSegment) (a : ℕ) (c : Covers a l) where
  -- from the window's end on the capacity stays
  pub cap-stays : (n : ℕ) → close_of a l - a ≤ n → cap_of l a n ≡ cap_of l a (close_of a l - a)
  cap-stays n h =
      let e : n ≡ (close_of a l - a) + (n - (close_of a l - a)) = omega arith in
      let past : close_of c.from l ≤ a + (close_of a l - a) = omega (arith, close-covers c.from a l c.below) in
      let flat = cap-flat c.from (a + (close_of a l - a)) (n - (close_of a l - a)) l c.run past in
      let split = cap-split l a (close_of a l - a) (n - (close_of a l - a)) in
      ap (λ (x : ℕ). cap_of l a x) e ∙ omega (arith, flat, split)

  found-exact : (k v d : ℕ) (r : Reach) → Found l a v (close_of a l - a) r → Exact k l a v d (end_given k l a v d r)
  found-exact k v d r (found m le h e) = reached m h (end_by k l a v d m r e)
  found-exact k v d r (lost f e) =
      short
      (λ n.
      ⊎_elim
      (λ (le : n ≤ close_of a l - a). f n le)
      (λ (lt : close_of a l - a < n). omega (arith, cap-stays n (omega arith), f (close_of a l - a) (omega arith)))
      (le-or-lt n (close_of a l - a)))
      (end-never k l a v d r e)

  pub end-exact : (k v d : ℕ) → Exact k l a v d (end_of k l a v d)
  unfolding end_of
  end-exact k v d = found-exact k v d _ (reach-is l a v (close_of a l - a))

-- The segment covers the rest: the first tick is the next after the whole ticks before the last unit.
module _ (k : ℕ) (s : VolumeSegment) (l : List VolumeSegment) (a v d : ℕ)
    (from : s.start.0 ≤ a) (to : a ≤ s.end.0) (some : 0 < v) (fit : v ≤ carried_of s a) where
  abbrev before : ℕ
  before = (v - 1) / rate_of s

  rate-pos : 0 < rate_of s
  rate-pos = pos-left (rate_of s) (s.end.0 - a) v some fit

  before-low : before * rate_of s < v
  before-low = let low : before * rate_of s ≤ v - 1 = (le-div_iff_mul-le rate-pos).0 (le_refl _) in omega arith

  before-high : v ≤ suc before * rate_of s
  before-high =
      let more : before < suc before = omega arith in
      let high : v - 1 < suc before * rate_of s = (div-lt_iff_lt-mul rate-pos).0 more in
      omega arith

  inside : before < s.end.0 - a
  inside = lt_of_mul-lt-mul_left (rate_of s) (omega (arith, mul_comm (rate_of s) before, before-low))

  cap-first : cap_of (s ∷ l) a (suc before) ≡ suc before * rate_of s
  cap-first = cap-in s l a (suc before) from (omega (arith, inside)) ∙ mul_comm (rate_of s) (suc before)

  first : Reached (s ∷ l) a v (suc before)
  first =
      record {
        reaches = omega (arith, cap-first, before-high);
        before = λ m lt.
            rw (cap-in s l a m from (omega (arith, inside)))
            (omega (arith, mul-le-mul_left (rate_of s) (le_of_suc-le-suc lt), mul_comm (rate_of s) before, before-low));
      }

  quotient : (q : ℕ) → q * rate_of s ≤ v → v < suc q * rate_of s → v / rate_of s ≡ q
  quotient q lo hi =
      let low : q ≤ v / rate_of s = (le-div_iff_mul-le rate-pos).1 lo in
      let high : v / rate_of s < suc q = (div-lt_iff_lt-mul rate-pos).1 hi in
      omega arith

  -- edition 1 rounds down where the capacity there is above the size
  down : a + v / rate_of s ≡ pick (eqb (cap_of (s ∷ l) a (suc before)) v) (a + suc before) ((a + suc before) - 1)
  down =
      ⊎_elim
      (λ (e : cap_of (s ∷ l) a (suc before) ≡ v).
      rw (eq-eqb _ _ e, quotient (suc before) (omega (arith, e, cap-first)) (omega (arith, e, cap-first, rate-pos, suc-mul (suc before) (rate_of s)))))
      (λ (e : cap_of (s ∷ l) a (suc before) ≡ v → ⊥).
      let less : v < suc before * rate_of s = ⊎_elim (λ (x : v ≡ suc before * rate_of s). absurd (e (cap-first ∙ sym x))) (λ (x : v < suc before * rate_of s). x) (eq-or-lt_of_le before-high) in
      rw (ne_eqb _ _ e, quotient before (omega (arith, before-low)) less) (omega arith))
      (eq-or-ne (cap_of (s ∷ l) a (suc before)) v)

  ticks-are : a + ticks_of k v (rate_of s) ≡ round_of k (cap_of (s ∷ l) a (suc before)) v (a + suc before)
  ticks-are =
      ⊎_elim
      (λ (two : k ≡ 2). rw (eq-eqb k 2 two) (omega arith))
      (λ (one : k ≡ 2 → ⊥). rw (ne_eqb k 2 one) down)
      (eq-or-ne k 2)

  exact-here : Exact k (s ∷ l) a v d (by_deadline d (a + ticks_of k v (rate_of s)))
  exact-here = reached (suc before) first (ap (λ (x : ℕ). by_deadline d x) ticks-are)

-- Exact terms speak of the capacities alone.
exact_same : (k : ℕ) (l m : List VolumeSegment) (a v d : ℕ) (r : (Option Date)) → ((n : ℕ) → cap_of m a n ≡ cap_of l a n) → Exact k l a v d r → Exact k m a v d r
exact_same k l m a v d r same (reached n h e) =
    reached n
    (record { reaches = rw (same n) h.reaches; before = λ i q. rw (same i) (h.before i q) })
    (rw (same n) e)
exact_same k l m a v d r same (short h e) = short (λ n. rw (same n) (h n)) e

-- the rounding is the same where a part of the size is used up
round-shift : (k x c v u : ℕ) → x < v → round_of k c (v - x) u ≡ round_of k (x + c) v u
round-shift k x c v u h =
    ⊎_elim
    (λ (e : c ≡ v - x). let q : x + c ≡ v = omega arith in rw (eq-eqb c (v - x) e, eq-eqb (x + c) v q))
    (λ (e : c ≡ v - x → ⊥). rw (ne_eqb c (v - x) e, ne_eqb (x + c) v (λ (q : x + c ≡ v). e (omega arith))))
    (eq-or-ne c (v - x))

-- The segment is used up: the first tick is past its end.
module _ (k : ℕ) (s : VolumeSegment) (l : List VolumeSegment) (a v d : ℕ) (r : (Option Date))
    (from : s.start.0 ≤ a) (to : a ≤ s.end.0) (less : carried_of s a < v) where
  cap-early : (n : ℕ) → n ≤ s.end.0 - a → cap_of (s ∷ l) a n < v
  cap-early n h = rw (cap-in s l a n from (omega arith)) (omega (arith, mul-le-mul_left (rate_of s) h))

  cap-late : (n : ℕ) → cap_of (s ∷ l) a ((s.end.0 - a) + n) ≡ carried_of s a + cap_of l s.end.0 n
  cap-late n =
      let e : a + (s.end.0 - a) ≡ s.end.0 = omega arith in
      rw (cap-split (s ∷ l) a (s.end.0 - a) n, cap-in s l a (s.end.0 - a) from (omega arith), e, cap-past s l s.end.0 n (omega arith))

  -- each tick is before the segment's end or past it by a number
  cap-below : (n : ℕ) → ((i : ℕ) → (s.end.0 - a) + i ≡ n → cap_of (s ∷ l) a n < v) → cap_of (s ∷ l) a n < v
  cap-below n f =
      ⊎_elim (λ h. cap-early n h) (λ h. f (n - (s.end.0 - a)) (omega arith)) (le-or-lt n (s.end.0 - a))

  exact-on : Exact k l s.end.0 (v - carried_of s a) d r → Exact k (s ∷ l) a v d r
  exact-on (short h e) =
      short (λ n. cap-below n (λ i q. rw (← q, cap-late i) (omega (arith, h i)))) e
  exact-on (reached n h e) =
      let shift : a + ((s.end.0 - a) + n) ≡ s.end.0 + n = omega arith in
      reached ((s.end.0 - a) + n)
      (record {
        reaches = rw (cap-late n) (omega (arith, h.reaches));
        before = λ m lt. cap-below m (λ i q. rw (← q, cap-late i) (omega (arith, h.before i (omega arith))));
      })
      (e ∙ ap (λ (x : ℕ). by_deadline d x) (round-shift k (carried_of s a) (cap_of l s.end.0 n) v (s.end.0 + n) less) ∙ rw (cap-late n, shift) refl)

pub seg-exact : (k : ℕ) (l : List VolumeSegment) (a v d : ℕ) → 0 < v → Covers a l → Exact k l a v d (seg_end k l a v d)
unfolding Run
seg-exact k [] a v d p c = short (λ n. rw (cap-none a n) p) (seg-none k a v d)
seg-exact k (s ∷ l) a v d p c =
    let from : s.start.0 ≤ a = omega (arith, c.run.0) in
    ⊎_elim
    (λ (to : a ≤ s.end.0).
    ⊎_elim
    (λ (h : v ≤ carried_of s a). rw (seg-here k s l a v d to h) (exact-here k s l a v d from to p h))
    (λ (h : carried_of s a < v).
    rw (seg-on k s l a v d to h)
    (exact-on k s l a v d _ from to h
    (seg-exact k l s.end.0 (v - carried_of s a) d (omega arith) (record { from = s.end.0; below = omega arith; run = c.run.2 }))))
    (le-or-lt v (carried_of s a)))
    (λ (h : s.end.0 < a).
    rw (seg_skip k s l a v d h)
    (exact_same k l (s ∷ l) a v d _ (λ n. cap-past s l a n (omega arith))
    (seg-exact k l a v d p (record { from = s.end.0; below = omega arith; run = c.run.2 }))))
    (le-or-lt a s.end.0)

-- the code's rule is the exact one
pub seg-end : (k : ℕ) (l : List VolumeSegment) (a v d : ℕ) → 0 < v → Covers a l → seg_end k l a v d ≡ end_of k l a v d
seg-end k l a v d p c = exact-unique k l a v d _ _ (seg-exact k l a v d p c) (end-exact l a c k v d)

-- The exact rule, segment by segment.
pub end_none : (k a v d : ℕ) → 0 < v → end_of k [] a v d ≡ None
unfolding Run
end_none k a v d p = sym (seg-end k [] a v d p (record { from = a; below = omega arith; run = tt })) ∙ seg-none k a v d

module _ (k : ℕ) (s : VolumeSegment) (l : List VolumeSegment) (a v d : ℕ) (p : 0 < v) (c : Covers a (s ∷ l)) where
  pub next-covers : (b : ℕ) → s.end.0 ≤ b → Covers b l
  unfolding Run
  next-covers b h = record { from = s.end.0; below = h; run = c.run.2 }

  pub end-skip : s.end.0 < a → end_of k (s ∷ l) a v d ≡ end_of k l a v d
  end-skip h = sym (seg-end k (s ∷ l) a v d p c) ∙ seg_skip k s l a v d h ∙ seg-end k l a v d p (next-covers a (omega arith))

  pub end-here : a ≤ s.end.0 → v ≤ carried_of s a → end_of k (s ∷ l) a v d ≡ by_deadline d (a + ticks_of k v (rate_of s))
  end-here h w = sym (seg-end k (s ∷ l) a v d p c) ∙ seg-here k s l a v d h w

  pub end_on : a ≤ s.end.0 → carried_of s a < v → end_of k (s ∷ l) a v d ≡ end_of k l s.end.0 (v - carried_of s a) d
  end_on h w =
      sym (seg-end k (s ∷ l) a v d p c) ∙ seg-on k s l a v d h w ∙ seg-end k l s.end.0 (v - carried_of s a) d (omega arith) (next-covers s.end.0 (omega arith))
