-- The bounded search for the first tick finds it, or there is none within the bound.
use Rattle.std.specs.Prelude.{None}
use Prim.Native.Nat.{ℕ, zero, suc, ◌+◌, ◌-◌, ◌<◌, ◌≤◌}
use mathlib.Core.Path.{◌≡◌, refl, sym, ap, ◌∙◌}
use mathlib.Core.List.{List}
use mathlib.Core.Logic.{⊎_elim}
use native.Mathlib.Nat.{add-zero}
use native.Mathlib.Omega.{arith}
use lib.Dec.{leb}
use borrow.Author.Tests.{leb-true, leb-false}
use Rattle.units.specs.Logic.{pick}
use Rattle.units.proofs.Logic.{pick-keeps}
use Rattle.units.proofs.Numbers.{le-or-lt}
use Rattle.segmentation.specs.declared.VolumeSegment.{VolumeSegment}
use Rattle.segmentation.specs.Capacity.{cap_of}
use Rattle.segmentation.specs.End.{Reach, by, never, or_else, reach_of, round_of, by_deadline, end_given}

-- a + n is the first tick by which the capacity from a on reaches v
pub record Reached (l : List VolumeSegment) (a v n : ℕ) : Type 0 where
  pub reaches : v ≤ cap_of l a n
  pub before : (m : ℕ) → m < n → cap_of l a m < v

module _ (l : List VolumeSegment) (a v : ℕ) where
  -- a tick that reaches it is not before the first
  pub first-low : (n m : ℕ) → Reached l a v n → v ≤ cap_of l a m → n ≤ m
  first-low n m h k = ⊎_elim (λ (le : n ≤ m). le) (λ (lt : m < n). omega (arith, h.before m lt)) (le-or-lt n m)

  pub first-unique : (n m : ℕ) → Reached l a v n → Reached l a v m → n ≡ m
  first-unique n m h k = omega (arith, first-low n m h k.reaches, first-low m n k h.reaches)

-- what a search of the n ticks after a can find
pub data Found (l : List VolumeSegment) (a v n : ℕ) (r : Reach) : Type 0 where
  found : (m : ℕ) → m ≤ n → Reached l a v m → r ≡ by (a + m) → Found l a v n r
  lost : ((m : ℕ) → m ≤ n → cap_of l a m < v) → r ≡ never → Found l a v n r

module _ (l : List VolumeSegment) (a v : ℕ) where
  more : (n : ℕ) (r : Reach) → Found l a v n r
      → Found l a v (suc n) (or_else r (pick (leb v (cap_of l a (suc n))) (by (a + suc n)) never))
  more n r (found m le h e) = found m (omega arith) h (rw e)
  more n r (lost f e) =
      pick-keeps (λ (x : Reach). Found l a v (suc n) (or_else r x)) (leb v (cap_of l a (suc n))) (by (a + suc n)) never
      (λ c. found (suc n) (omega arith) (record { reaches = leb-true _ _ c; before = λ m lt. f m (omega arith) }) (rw e))
      (λ c.
      lost
      (λ m le.
      ⊎_elim
      (λ (h : m ≤ n). f m h)
      (λ (h : n < m). let q : m ≡ suc n = omega arith in rw q (leb-false _ _ c))
      (le-or-lt m n))
      (rw e))

  pub reach-is : (n : ℕ) → Found l a v n (reach_of l a v n)
  unfolding reach_of cap_of
  reach-is zero =
      pick-keeps (λ (x : Reach). Found l a v 0 x) (leb v 0) (by a) never
      (λ c. found 0 (omega arith) (record { reaches = leb-true _ _ c; before = λ m lt. omega arith }) (ap by (sym (add-zero a))))
      (λ c. lost (λ m le. let q : m ≡ 0 = omega arith in rw q (leb-false _ _ c)) refl)
  reach-is (suc n) = more n (reach_of l a v n) (reach-is n)

-- The end made of what the search finds.
module _ (k : ℕ) (l : List VolumeSegment) (a v d : ℕ) where
  pub end_by : (m : ℕ) (r : Reach) → r ≡ by (a + m) → end_given k l a v d r ≡ by_deadline d (round_of k (cap_of l a m) v (a + m))
  end_by m r e =
      let q : (a + m) - a ≡ m = omega arith in
      ap (λ (x : Reach). end_given k l a v d x) e ∙ ap (λ (x : ℕ). by_deadline d (round_of k (cap_of l a x) v (a + m))) q

  pub end-never : (r : Reach) → r ≡ never → end_given k l a v d r ≡ None
  end-never r e = ap (λ (x : Reach). end_given k l a v d x) e
