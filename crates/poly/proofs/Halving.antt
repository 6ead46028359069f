-- The halving as a relation, step by step; it is what the definition computes, whatever the fuel, if that suffices.
use Prim.Native.Nat.{ℕ, zero, suc, ◌+◌, ◌-◌, ◌≤◌, ◌<◌}
use mathlib.Core.Bool.{true, false}
use mathlib.Core.Path.{◌≡◌, refl}
use native.Mathlib.Omega.{arith}
use borrow.Author.Tests.{ltb-true, ltb-false, lt-ltb, le-ltb}
use lib.Dec.{ltb}
use lib.IntN.{ℤ}
use lib.Signed.{lt_z}
use Rattle.units.proofs.Logic.{pick-keeps, unless-keeps}
use Rattle.poly.specs.Search.{middle, halve_of}

-- halving between low and top (excluded) ends at r
pub data Halves (f : ℕ → ℤ) (t : ℤ) : ℕ → ℕ → ℕ → Type 0 where
  empty : {low top : ℕ} → top ≤ low → Halves f t low top low
  up : {low top r : ℕ} → low < top → lt_z (f (middle low top)) t ≡ true → Halves f t (middle low top + 1) top r → Halves f t low top r
  down : {low top r : ℕ} → low < top → lt_z (f (middle low top)) t ≡ false → lt_z t (f (middle low top)) ≡ true → Halves f t low (middle low top) r → Halves f t low top r
  hit : {low top : ℕ} → low < top → lt_z (f (middle low top)) t ≡ false → lt_z t (f (middle low top)) ≡ false → Halves f t low top (middle low top)

module _ (f : ℕ → ℤ) (t : ℤ) where
  -- the definition halves
  pub halves : (n low top : ℕ) → top ≤ low + n → Halves f t low top (halve_of n f t low top)
  unfolding halve_of
  halves zero low top h = empty {low = low} {top = top} (omega arith)
  halves (suc n) low top h =
      unless-keeps (λ (r : ℕ). Halves f t low top r) (ltb low top) _ _
      (λ e. empty (ltb-false _ _ e))
      (λ e. pick-keeps (λ (r : ℕ). Halves f t low top r) (lt_z (f (middle low top)) t) _ _
      (λ lt. up (ltb-true _ _ e) lt (halves n (middle low top + 1) top (omega (arith, ltb-true low top e))))
      (λ ge. pick-keeps (λ (r : ℕ). Halves f t low top r) (lt_z t (f (middle low top))) _ _
      (λ gt. down (ltb-true _ _ e) ge gt (halves n low (middle low top) (omega (arith, ltb-true low top e))))
      (λ le. hit (ltb-true _ _ e) ge le)))

  -- and what it halves to is its answer
  pub halves-is : (n : ℕ) {low top r : ℕ} → Halves f t low top r → top ≤ low + n → halve_of n f t low top ≡ r
  unfolding halve_of
  halves-is zero (empty a) h = refl
  halves-is zero (up a _ _) h = absurd (omega arith)
  halves-is zero (down a _ _ _) h = absurd (omega arith)
  halves-is zero (hit a _ _) h = absurd (omega arith)
  halves-is (suc n) (empty a) h = rw (le-ltb _ _ a)
  halves-is (suc n) (up a p k) h = rw (lt-ltb _ _ a, p) (halves-is n k (omega arith))
  halves-is (suc n) (down a p q k) h = rw (lt-ltb _ _ a, p, q) (halves-is n k (omega arith))
  halves-is (suc n) (hit a p q) h = rw (lt-ltb _ _ a, p, q)

-- a loop that halves between x and z stands at low and top: what is halved from here is the answer
pub record Left (f : ℕ → ℤ) (t : ℤ) (x z low top : ℕ) : Type 0 where
  pub from : x ≤ low
  pub some : low ≤ top
  pub to : top ≤ z
  pub same : (r : ℕ) → Halves f t low top r → Halves f t x z r

module _ (f : ℕ → ℤ) (t : ℤ) (x z : ℕ) where
  pub left-first : x ≤ z → Left f t x z x z
  left-first h = record { from = omega arith; some = h; to = omega arith; same = λ r k. k }

  module _ (low top : ℕ) (q : Left f t x z low top) where
    pub left_end : top ≤ low → halve_of (z - x) f t x z ≡ low
    left_end h = halves-is f t (z - x) (q.same low (empty h)) (omega arith)

    module _ (lt : low < top) where
      -- the middle falls short
      pub left_up : lt_z (f (middle low top)) t ≡ true → Left f t x z (middle low top + 1) top
      left_up p =
          record {
            from = omega (arith, q.from);
            some = omega arith;
            to = q.to;
            same = λ r h. q.same r (up lt p h);
          }

      module _ (p : lt_z (f (middle low top)) t ≡ false) where
        -- the middle is past the target
        pub left_down : lt_z t (f (middle low top)) ≡ true → Left f t x z low (middle low top)
        left_down g =
            record {
              from = q.from;
              some = omega arith;
              to = omega (arith, q.to);
              same = λ r h. q.same r (down lt p g h);
            }

        -- the middle meets the target
        pub left-hit : lt_z t (f (middle low top)) ≡ false → halve_of (z - x) f t x z ≡ middle low top
        left-hit g = halves-is f t (z - x) (q.same _ (hit lt p g)) (omega (arith, q.from, q.to))
