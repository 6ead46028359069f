-- Laws of the capacity: it splits at a tick and over the segments, and stands still past the window's end.
use Prim.Native.Nat.{ℕ, zero, suc, ◌+◌, ◌-◌, ◌*◌, ◌<◌, ◌≤◌, min, max}
use mathlib.Core.Path.{◌≡◌, refl, sym, ap, ◌∙◌}
use mathlib.Core.List.{List, [], ◌∷◌}
use mathlib.Core.Logic.{⊎_elim}
use native.Mathlib.Nat.{add-zero, add-suc, add_assoc, mul-zero, mul-suc, mul-le-mul_left}
use native.Mathlib.Omega.{arith}
use lib.Dec.{leb, ltb}
use lib.ListN.{length}
use borrow.Author.Tests.{le-leb, lt-leb, lt-ltb, le-ltb}
use Rattle.units.specs.Limits.{volume_max}
use Rattle.units.specs.Logic.{both}
use Rattle.units.proofs.Logic.{both-stop, both-not, both_yes, pick-keeps}
use Rattle.units.proofs.Numbers.{le-or-lt}
use Rattle.segmentation.specs.declared.VolumeSegment.{VolumeSegment}
use Rattle.segmentation.specs.Granted.{SegOk, Run, Runs}
use Rattle.segmentation.specs.Capacity.{rate_of, rate_at, cap_of, capacity, top_of}
use Rattle.segmentation.specs.End.{close_of}

-- The rate in force at a tick.
module _ (s : VolumeSegment) (l : List VolumeSegment) (t : ℕ) where
  pub rate-past : s.end.0 ≤ t → rate_at (s ∷ l) t ≡ rate_at l t
  unfolding rate_at
  rate-past h = rw (both-not (leb s.start.0 t) _ (le-ltb _ _ h))

  pub rate-early : t < s.start.0 → rate_at (s ∷ l) t ≡ rate_at l t
  unfolding rate_at
  rate-early h = rw (both-stop _ (ltb t s.end.0) (lt-leb _ _ h))

  pub rate-in : s.start.0 ≤ t → t < s.end.0 → rate_at (s ∷ l) t ≡ rate_of s
  unfolding rate_at
  rate-in h k = rw (both_yes _ _ (le-leb _ _ h) (lt-ltb _ _ k))

-- nothing is in force before the first segment
pub rate-before : (f t : ℕ) (l : List VolumeSegment) → Run f l → t < f → rate_at l t ≡ 0
unfolding rate_at Run
rate-before f t [] r h = refl
rate-before f t (s ∷ l) r h =
    let ok : SegOk s = r.1 in
    rate-early s l t (omega (arith, r.0)) ∙ rate-before s.end.0 t l r.2 (omega (arith, r.0))

-- the window does not end before it starts
pub close-low : (f : ℕ) (l : List VolumeSegment) → Run f l → f ≤ close_of f l
unfolding Run close_of
close-low f [] r = omega arith
close-low f (s ∷ l) r = let ok : SegOk s = r.1 in omega (arith, r.0, close-low s.end.0 l r.2)

-- nothing is in force past the last segment
pub rate-after : (f t : ℕ) (l : List VolumeSegment) → Run f l → close_of f l ≤ t → rate_at l t ≡ 0
unfolding rate_at Run close_of
rate-after f t [] r h = refl
rate-after f t (s ∷ l) r h =
    rate-past s l t (omega (arith, close-low s.end.0 l r.2)) ∙ rate-after s.end.0 t l r.2 h

-- the rate in force is at most the highest
pub rate-top : (l : List VolumeSegment) (t : ℕ) → rate_at l t ≤ top_of l
unfolding rate_at top_of
rate-top [] t = omega arith
rate-top (s ∷ l) t =
    let k = rate-top l t in
    pick-keeps (λ (x : ℕ). x ≤ max (rate_of s) (top_of l)) (both (leb s.start.0 t) (ltb t s.end.0)) (rate_of s) (rate_at l t)
    (λ e. omega arith)
    (λ e. omega arith)

-- The capacity of a span is the sum of its parts.
pub cap-split : (l : List VolumeSegment) (a n m : ℕ) → cap_of l a (n + m) ≡ cap_of l a n + cap_of l (a + n) m
unfolding cap_of
cap-split l a n zero = simp add-zero
cap-split l a n (suc m) = rw (add-suc, cap-split l a n m) (simp add_assoc)

pub cap-zero : (l : List VolumeSegment) (a : ℕ) → cap_of l a 0 ≡ 0
unfolding cap_of
cap-zero l a = refl

module _ (l : List VolumeSegment) (a b : ℕ) where
  pub capacity-split : (c : ℕ) → a ≤ b → b ≤ c → capacity l a c ≡ capacity l a b + capacity l b c
  capacity-split c h k =
      let e : c - a ≡ (b - a) + (c - b) = omega arith in
      let q : a + (b - a) ≡ b = omega arith in
      omega (
        arith,
        ap (λ (n : ℕ). cap_of l a n) e,
        cap-split l a (b - a) (c - b),
        ap (λ (t : ℕ). cap_of l t (c - b)) q,
      )

  pub capacity-none : b ≤ a → capacity l a b ≡ 0
  capacity-none h = let e : b - a ≡ 0 = omega arith in rw e (cap-zero l a)

  -- a wider span carries no less
  pub capacity-grows : (c : ℕ) → b ≤ c → capacity l a b ≤ capacity l a c
  capacity-grows c h =
      ⊎_elim
      (λ (k : a ≤ b). omega (arith, capacity-split c k h))
      (λ (k : b < a). omega (arith, capacity-none (omega arith)))
      (le-or-lt a b)

-- no rate in force, nothing carried
pub cap-idle : (l : List VolumeSegment) (a n : ℕ) → ((t : ℕ) → a ≤ t → t < a + n → rate_at l t ≡ 0) → cap_of l a n ≡ 0
unfolding cap_of
cap-idle l a zero f = refl
cap-idle l a (suc n) f =
    omega (arith, cap-idle l a n (λ t h k. f t h (omega arith)), f (a + n) (omega arith) (omega arith))

pub cap-none : (a n : ℕ) → cap_of [] a n ≡ 0
unfolding rate_at
cap-none a n = cap-idle [] a n (λ t h k. refl)

-- two lists with the same rates carry the same
pub cap-same : (l k : List VolumeSegment) (a n : ℕ) → ((t : ℕ) → a ≤ t → t < a + n → rate_at l t ≡ rate_at k t) → cap_of l a n ≡ cap_of k a n
unfolding cap_of
cap-same l k a zero f = refl
cap-same l k a (suc n) f =
    omega (arith, cap-same l k a n (λ t h q. f t h (omega arith)), f (a + n) (omega arith) (omega arith))

-- past the window's end the capacity does not grow
pub cap-flat : (f a n : ℕ) (l : List VolumeSegment) → Run f l → close_of f l ≤ a → cap_of l a n ≡ 0
cap-flat f a n l r h = cap-idle l a n (λ t le lt. rate-after f t l r (omega arith))

module _ (s : VolumeSegment) (l : List VolumeSegment) where
  -- past the segment the others count
  pub cap-past : (a n : ℕ) → s.end.0 ≤ a → cap_of (s ∷ l) a n ≡ cap_of l a n
  cap-past a n h = cap-same (s ∷ l) l a n (λ t le lt. rate-past s l t (omega arith))

  -- in the segment each tick counts its rate
  pub cap-in : (a n : ℕ) → s.start.0 ≤ a → a + n ≤ s.end.0 → cap_of (s ∷ l) a n ≡ rate_of s * n
  unfolding cap_of
  cap-in a zero h k = sym (mul-zero (rate_of s))
  cap-in a (suc n) h k =
      rw (cap-in a n h (omega arith), rate-in s l (a + n) (omega arith) (omega arith)) (sym (mul-suc (rate_of s) n))

  rate-add : (t : ℕ) → s.start.0 ≤ s.end.0 → Run s.end.0 l → rate_at (s ∷ l) t ≡ rate_at (s ∷ []) t + rate_at l t
  unfolding rate_at
  rate-add t o r =
      ⊎_elim
      (λ (h : s.end.0 ≤ t). omega (arith, rate-past s l t h, rate-past s [] t h))
      (λ (h : t < s.end.0).
      ⊎_elim
      (λ (k : s.start.0 ≤ t). omega (arith, rate-in s l t k h, rate-in s [] t k h, rate-before s.end.0 t l r h))
      (λ (k : t < s.start.0). omega (arith, rate-early s l t k, rate-early s [] t k))
      (le-or-lt s.start.0 t))
      (le-or-lt s.end.0 t)

  -- the capacity is the sum of the segments' own
  pub cap-add : (a n : ℕ) → s.start.0 ≤ s.end.0 → Run s.end.0 l → cap_of (s ∷ l) a n ≡ cap_of (s ∷ []) a n + cap_of l a n
  unfolding cap_of
  cap-add a zero o r = refl
  cap-add a (suc n) o r = omega (arith, cap-add a n o r, rate-add (a + n) o r)

-- A segment alone: what it carries of a span is its rate over what they share.
module _ (s : VolumeSegment) (ok : SegOk s) where
  cap-before : (a n : ℕ) → a + n ≤ s.start.0 → cap_of (s ∷ []) a n ≡ 0
  unfolding rate_at
  cap-before a n h = cap-idle (s ∷ []) a n (λ t le lt. rate-early s [] t (omega arith))

  cap-after : (a n : ℕ) → s.end.0 ≤ a → cap_of (s ∷ []) a n ≡ 0
  cap-after a n h = cap-past s [] a n h ∙ cap-none a n

  module _ (a b : ℕ) where
    -- they share nothing
    pub part-not : (lo hi : ℕ) → lo ≡ max a s.start.0 → hi ≡ min b s.end.0 → hi ≤ lo → capacity (s ∷ []) a b ≡ 0
    part-not lo hi p q h =
        ⊎_elim
        (λ (z : b ≤ a). capacity-none (s ∷ []) a b z)
        (λ (z : a < b).
        ⊎_elim
        (λ (y : b ≤ s.start.0). cap-before a (b - a) (omega arith))
        (λ (y : s.start.0 < b). cap-after a (b - a) (omega arith))
        (le-or-lt b s.start.0))
        (le-or-lt b a)

    -- they share lo to hi
    pub part-is : (lo hi : ℕ) → lo ≡ max a s.start.0 → hi ≡ min b s.end.0 → lo < hi → capacity (s ∷ []) a b ≡ rate_of s * (hi - lo)
    part-is lo hi p q h =
        let first = capacity-split (s ∷ []) a lo b (omega arith) (omega arith) in
        let then = capacity-split (s ∷ []) lo hi b (omega arith) (omega arith) in
        let none : capacity (s ∷ []) a lo ≡ 0 =
        ⊎_elim
        (λ (z : s.start.0 ≤ a). capacity-none (s ∷ []) a lo (omega arith))
        (λ (z : a < s.start.0). cap-before a (lo - a) (omega arith))
        (le-or-lt s.start.0 a) in
        let here : capacity (s ∷ []) lo hi ≡ rate_of s * (hi - lo) = cap-in s [] lo (hi - lo) (omega arith) (omega arith) in
        let last : capacity (s ∷ []) hi b ≡ 0 =
        ⊎_elim
        (λ (z : b ≤ s.end.0). capacity-none (s ∷ []) hi b (omega arith))
        (λ (z : s.end.0 < b). cap-after hi (b - hi) (omega arith))
        (le-or-lt b s.end.0) in
        omega (arith, first, then, none, here, last)

    -- they share at most the segment
    part-most : capacity (s ∷ []) a b ≤ s.volume.0
    part-most =
        let lo = max a s.start.0 in
        let hi = min b s.end.0 in
        ⊎_elim
        (λ (z : hi ≤ lo). omega (arith, part-not lo hi refl refl z))
        (λ (z : lo < hi).
        let m : rate_of s * (hi - lo) ≤ rate_of s * (s.end.0 - s.start.0) = mul-le-mul_left (rate_of s) (omega arith) in
        omega (arith, part-is lo hi refl refl z, m, ok.whole))
        (le-or-lt hi lo)

-- the sum of the segments' volumes
unfoldable pub volume_sum : List VolumeSegment → ℕ
volume_sum [] = 0
volume_sum (s ∷ l) = s.volume.0 + volume_sum l

-- the total volume is the window's capacity
pub total-is : (l : List VolumeSegment) (a : ℕ) → Run a l → volume_sum l ≡ capacity l a (close_of a l)
unfolding Run close_of volume_sum
total-is [] a r = sym (cap-none a (a - a))
total-is (s ∷ l) a r =
    let ok : SegOk s = r.1 in
    let at : s.start.0 ≡ a = r.0 in
    let low : s.end.0 ≤ close_of s.end.0 l = close-low s.end.0 l r.2 in
    let e = capacity-split (s ∷ l) a s.end.0 (close_of s.end.0 l) (omega arith) low in
    let q : capacity (s ∷ l) a s.end.0 ≡ rate_of s * (s.end.0 - a) = cap-in s l a (s.end.0 - a) (omega arith) (omega arith) in
    let p = cap-past s l s.end.0 (close_of s.end.0 l - s.end.0) (omega arith) in
    let w : s.volume.0 ≡ rate_of s * (s.end.0 - a) = ok.whole ∙ ap (λ (x : ℕ). rate_of s * (s.end.0 - x)) at in
    omega (arith, total-is l s.end.0 r.2, e, q, p, w)

-- and no span carries more
pub capacity-most : (l : List VolumeSegment) (f a b : ℕ) → Run f l → capacity l a b ≤ volume_sum l
unfolding Run volume_sum
capacity-most [] f a b r = omega (arith, cap-none a (b - a))
capacity-most (s ∷ l) f a b r =
    let ok : SegOk s = r.1 in
    omega (arith, cap-add s l a (b - a) (omega (arith, ok.some)) r.2, part-most s ok a b, capacity-most l s.end.0 a b r.2)

sum-most : (l : List VolumeSegment) (f : ℕ) → Run f l → volume_sum l ≤ length l * volume_max
unfolding Run volume_sum
sum-most [] f r = omega arith
sum-most (s ∷ l) f r = let ok : SegOk s = r.1 in omega (arith, ok.small, sum-most l s.end.0 r.2)

-- so what some segments carry fits, whatever they are
pub capacity-fits : (l : List VolumeSegment) (a b : ℕ) → Runs l → capacity l a b ≤ length l * volume_max
capacity-fits l a b q = omega (arith, capacity-most l q.from a b q.run, sum-most l q.from q.run)
