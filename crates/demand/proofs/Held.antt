-- What the instants that bookings hold weigh, where no two share one, is the sum of what each booking's do; by their rates that is the exact capacity.
use Prim.Native.Nat.{ℕ, zero, suc, ◌+◌, ◌-◌, ◌<◌, ◌≤◌}
use mathlib.Core.Bool.{Bool, true, false}
use mathlib.Core.Path.{◌≡◌, refl, sym, ap, ◌∙◌}
use mathlib.Core.List.{List, [], ◌∷◌}
use native.Mathlib.Nat.{add-zero, add-suc, add_assoc}
use native.Mathlib.Omega.{arith}
use lib.Dec.{leb, ltb}
use borrow.Author.Tests.{leb-true, ltb-true, le-leb, lt-leb, lt-ltb, le-ltb}
use Rattle.units.specs.declared.Interval.{Interval}
use Rattle.units.specs.Logic.{both, pick}
use Rattle.units.proofs.Logic.{both_go, both-stop, both-fst, both-snd}
use Rattle.segmentation.specs.declared.VolumeSegment.{VolumeSegment}
use Rattle.segmentation.specs.Capacity.{rate_at, cap_of, capacity}
use Rattle.demand.specs.Calls.{Booking}
use Rattle.demand.specs.Instants.{AllApart, Pairwise, AllIn, held_at, held_of}

abbrev is_in_one : Booking → ℕ → Bool
is_in_one b t = both (leb b.send.start.0 t) (ltb t b.send.end.0)

in_one : (b : Booking) (t : ℕ) → b.send.start.0 ≤ t → t < b.send.end.0 → is_in_one b t ≡ true
in_one b t h k = both_go _ _ (le-leb _ _ h) ∙ lt-ltb _ _ k

in-early : (b : Booking) (t : ℕ) → t < b.send.start.0 → is_in_one b t ≡ false
in-early b t h = both-stop _ _ (lt-leb _ _ h)

in-late : (b : Booking) (t : ℕ) → b.send.start.0 ≤ t → b.send.end.0 ≤ t → is_in_one b t ≡ false
in-late b t h k = both_go _ _ (le-leb _ _ h) ∙ le-ltb _ _ k

skip : (x y : Bool) → (x ≡ true → ⊥) → y ≡ false → pick x true y ≡ false
skip true y f e = absurd (f refl)
skip false y f e = e

-- a tick of an interval that shares none is not held
not-held : (s e t : ℕ) (bs : List Booking) → AllApart s e bs → s ≤ t → t < e → held_at bs t ≡ false
unfolding AllApart held_at
not-held s e t [] p h k = refl
not-held s e t (c ∷ cs) p h k =
    skip (is_in_one c t) (held_at cs t) (λ x. p.0 t h k (leb-true _ _ (both-fst _ _ x)) (ltb-true _ _ (both-snd _ _ x))) (not-held s e t cs p.1 h k)

-- over any weight of a tick
module _ (f : ℕ → ℕ) where
  -- the weight of the n ticks from a on
  unfoldable pub sum_by : ℕ → ℕ → ℕ
  sum_by a zero = 0
  sum_by a (suc n) = sum_by a n + f (a + n)

  -- of those among them that bookings hold
  unfoldable pub held_by : List Booking → ℕ → ℕ → ℕ
  held_by log a zero = 0
  held_by log a (suc n) = held_by log a n + pick (held_at log (a + n)) (f (a + n)) 0

  -- and the sum of what each booking holds
  unfoldable pub each_by : List Booking → ℕ
  each_by [] = 0
  each_by (b ∷ log) = sum_by b.send.start.0 (b.send.end.0 - b.send.start.0) + each_by log

  add-tick : (x y : Bool) (r : ℕ) → (x ≡ true → y ≡ false) → pick (pick x true y) r 0 ≡ pick (pick x true false) r 0 + pick y r 0
  add-tick true true r h = let z : ◌≡◌ {A = ℕ} 0 1 = cc (h refl) in absurd (omega arith)
  add-tick true false r h = sym (add-zero r)
  add-tick false true r h = omega arith
  add-tick false false r h = refl

  held-add : (b : Booking) (bs : List Booking) (a n : ℕ) → AllApart b.send.start.0 b.send.end.0 bs → held_by (b ∷ bs) a n ≡ held_by (b ∷ []) a n + held_by bs a n
  unfolding held_by held_at
  held-add b bs a zero p = refl
  held-add b bs a (suc n) p =
      omega (
        arith,
        held-add b bs a n p,
        add-tick (is_in_one b (a + n)) (held_at bs (a + n)) (f (a + n))
            (λ e. not-held b.send.start.0 b.send.end.0 (a + n) bs p (leb-true _ _ (both-fst _ _ e)) (ltb-true _ _ (both-snd _ _ e))),
      )

  held-split : (bs : List Booking) (a n m : ℕ) → held_by bs a (n + m) ≡ held_by bs a n + held_by bs (a + n) m
  unfolding held_by
  held-split bs a n zero = simp add-zero
  held-split bs a n (suc m) = rw (add-suc, held-split bs a n m) (simp add_assoc)

  module _ (b : Booking) where
    held_out : (a n : ℕ) → ((t : ℕ) → a ≤ t → t < a + n → is_in_one b t ≡ false) → held_by (b ∷ []) a n ≡ 0
    unfolding held_by held_at
    held_out a zero h = refl
    held_out a (suc n) h =
        let e : is_in_one b (a + n) ≡ false = h (a + n) (omega arith) (omega arith) in
        rw (held_out a n (λ t p q. h t p (omega arith)), e)

    held_in : (a n : ℕ) → b.send.start.0 ≤ a → a + n ≤ b.send.end.0 → held_by (b ∷ []) a n ≡ sum_by a n
    unfolding held_by held_at sum_by
    held_in a zero h k = refl
    held_in a (suc n) h k =
        let e : is_in_one b (a + n) ≡ true = in_one b (a + n) (omega arith) (omega arith) in
        rw (held_in a n h (omega arith), e)

    held_one : (lo hi : ℕ) → lo ≤ b.send.start.0 → b.send.start.0 ≤ b.send.end.0 → b.send.end.0 ≤ hi → held_by (b ∷ []) lo (hi - lo) ≡ sum_by b.send.start.0 (b.send.end.0 - b.send.start.0)
    held_one lo hi h k m =
        let e : hi - lo ≡ (b.send.start.0 - lo) + ((b.send.end.0 - b.send.start.0) + (hi - b.send.end.0)) = omega arith in
        let p : lo + (b.send.start.0 - lo) ≡ b.send.start.0 = omega arith in
        let q : b.send.start.0 + (b.send.end.0 - b.send.start.0) ≡ b.send.end.0 = omega arith in
        let c1 : held_by (b ∷ []) lo (b.send.start.0 - lo) ≡ 0 = held_out lo (b.send.start.0 - lo) (λ t x y. in-early b t (omega arith)) in
        let c2 : held_by (b ∷ []) b.send.start.0 (b.send.end.0 - b.send.start.0) ≡ sum_by b.send.start.0 (b.send.end.0 - b.send.start.0) = held_in b.send.start.0 (b.send.end.0 - b.send.start.0) (omega arith) (omega arith) in
        let c3 : held_by (b ∷ []) b.send.end.0 (hi - b.send.end.0) ≡ 0 = held_out b.send.end.0 (hi - b.send.end.0) (λ t x y. in-late b t (omega arith) x) in
        rw (e, held-split (b ∷ []) lo (b.send.start.0 - lo) ((b.send.end.0 - b.send.start.0) + (hi - b.send.end.0)), p, held-split (b ∷ []) b.send.start.0 (b.send.end.0 - b.send.start.0) (hi - b.send.end.0), q)
        (omega (arith, c1, c2, c3))

  held_none : (a n : ℕ) → held_by [] a n ≡ 0
  unfolding held_by held_at
  held_none a zero = refl
  held_none a (suc n) = rw (held_none a n)

  pub held-each : (w : Interval) (bs : List Booking) → AllIn w bs → Pairwise bs → held_by bs w.start.0 (w.end.0 - w.start.0) ≡ each_by bs
  unfolding AllIn Pairwise each_by
  held-each w [] i p = held_none w.start.0 (w.end.0 - w.start.0)
  held-each w (b ∷ bs) i p =
      held-add b bs w.start.0 (w.end.0 - w.start.0) p.0
      ∙ omega (arith, held_one b w.start.0 w.end.0 i.0 i.1 i.2, held-each w bs i.3 p.1)

-- the sum of the bookings' own capacities
unfoldable pub cap_sum : List VolumeSegment → List Booking → ℕ
cap_sum l [] = 0
cap_sum l (b ∷ log) = capacity l b.send.start.0 b.send.end.0 + cap_sum l log

-- by the rates
module _ (l : List VolumeSegment) where
  cap-is : (a n : ℕ) → cap_of l a n ≡ sum_by (rate_at l) a n
  unfolding cap_of sum_by
  cap-is a zero = refl
  cap-is a (suc n) = ap (λ (x : ℕ). x + rate_at l (a + n)) (cap-is a n)

  held-is : (log : List Booking) (a n : ℕ) → held_of l log a n ≡ held_by (rate_at l) log a n
  unfolding held_of held_by
  held-is log a zero = refl
  held-is log a (suc n) = ap (λ (x : ℕ). x + pick (held_at log (a + n)) (rate_at l (a + n)) 0) (held-is log a n)

  each-is : (log : List Booking) → each_by (rate_at l) log ≡ cap_sum l log
  unfolding each_by cap_sum
  each-is [] = refl
  each-is (b ∷ log) = omega (arith, cap-is b.send.start.0 (b.send.end.0 - b.send.start.0), each-is log)

  pub held-sum : (w : Interval) (log : List Booking) → AllIn w log → Pairwise log → held_of l log w.start.0 (w.end.0 - w.start.0) ≡ cap_sum l log
  held-sum w log i p = held-is log _ _ ∙ held-each (rate_at l) w log i p ∙ each-is log
