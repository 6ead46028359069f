-- What callers of the end search know, over the capacity to a date and no more: the end is after the start and inside the segment,
-- what is sent by then suffices, and one tick earlier it does not, unless it is exactly the size.
use Prim.Native.Nat.{ℕ, ◌+◌, ◌-◌, ◌<◌, ◌≤◌}
use mathlib.Core.Bool.{true, false}
use mathlib.Core.Path.{◌≡◌, ◌∙◌, ap}
use mathlib.Core.Logic.{⊎_elim, ◌⊎◌, inl, inr}
use native.Mathlib.Nat.{eq-or-lt_of_le}
use native.Mathlib.Omega.{arith}
use borrow.Author.Tests.{lt-ltb}
use lib.IntN.{ℤ, pos, ◌-ℤ◌, +ℤ_invr}
use lib.Signed.{lt_z}
use Rattle.units.specs.declared.Date.{Date}
use Rattle.std.specs.Prelude.{Some}
use Rattle.poly.specs.Search.{area_from, halve_of, find_end}
use Rattle.poly.proofs.Crossing.{halves-after, halves-by, halves-reach, halves-tight, before-tight}
use Rattle.poly.proofs.Ends.{found}
use Rattle.poly.proofs.Halving.{Halves, halves}
use Rattle.poly.proofs.Order.{less-trans, less-asym, less-shift}

-- of any capacity to a date, where the segment's end suffices
module _ (cap : ℕ → ℤ) (x b v : ℕ) (size : 1 ≤ v) (some : x < b) (enough : lt_z (cap b -ℤ cap x) (pos v) ≡ false) where
  abbrev pub area : ℕ → ℤ
  area y = cap y -ℤ cap x

  abbrev pub end : ℕ
  end = halve_of (b + 1 - x) area (pos v) x (b + 1)

  halving : Halves area (pos v) x (b + 1) end
  halving = halves area (pos v) (b + 1 - x) x (b + 1) (omega arith)

  -- at the start nothing is sent
  nothing : lt_z (area x) (pos v) ≡ true
  nothing = rw (+ℤ_invr (cap x)) (lt-ltb 0 v (omega arith))

  pub end_after : x < end
  end_after = halves-after area (pos v) (omega arith) nothing halving

  pub end_by : end ≤ b
  end_by = halves-by area (pos v) (omega arith) enough halving

  pub end-reach : lt_z (area end) (pos v) ≡ false
  end-reach = halves-reach area (pos v) halving (omega (arith, end_by))

  pub end-tight : (area end ≡ pos v) ⊎ (lt_z (area (end - 1)) (pos v) ≡ true)
  end-tight = halves-tight area (pos v) halving end_after

  -- where the capacity never falls, the end is the first date by which the size is sent, unless it is exactly the size
  pub end-first : ((i j : ℕ) → x ≤ i → i ≤ j → j ≤ b → lt_z (cap j) (cap i) ≡ false)
      → (area end ≡ pos v) ⊎ ((i : ℕ) → x ≤ i → i < end → lt_z (area i) (pos v) ≡ true)
  end-first rises =
      ⊎_elim (λ e. inl e)
      (λ l. inr (before-tight area (pos v) (λ i j h k m. less-shift (cap j) (cap i) (cap x) ∙ rises i j h k (omega (arith, end_by))) l))
      end-tight

  -- where it rises from tick to tick, the end is the first date by which the size is sent
  pub end-rises : ((i j : ℕ) → x ≤ i → i < j → j ≤ b → lt_z (cap i) (cap j) ≡ true)
      → (i : ℕ) → x ≤ i → i < end → lt_z (area i) (pos v) ≡ true
  end-rises rises i h k =
      let up : (j : ℕ) → i < j → j ≤ b → lt_z (area i) (area j) ≡ true = λ j l m. less-shift (cap i) (cap j) (cap x) ∙ rises i j h l m in
      ⊎_elim (λ e. rw e at (up end k end_by))
      (λ l. ⊎_elim
      (λ (q : i ≡ end - 1). ap (λ (n : ℕ). lt_z (area n) (pos v)) q ∙ l)
      (λ (q : i < end - 1). less-trans (area i) (area (end - 1)) (pos v) (less-asym (area i) (area (end - 1)) (up (end - 1) q (omega (arith, end_by)))) l)
      (eq-or-lt_of_le (omega (arith, end_after))))
      end-tight

-- a send's start and end in the segment [a, b)
pub record Inside (a b x e : ℕ) : Type 0 where
  pub from : a ≤ x
  pub after : x < e
  pub by : e ≤ b

module _ (cap : ℕ → ℤ) (a b x v : ℕ) (e : Date) (size : 1 ≤ v) (h : find_end cap a b x v ≡ Some e) where
  abbrev pub sent : ℕ → ℤ
  sent = area_from cap (cap x)

  -- so no send of this manager has zero length
  pub find-end-inside : Inside a b x e.0
  unfolding area_from
  find-end-inside =
      let f = found cap a b x v e h in
      record {
        from = f.from;
        after = omega (arith, f.is, end_after cap x b v size f.some f.enough);
        by = omega (arith, f.is, end_by cap x b v size f.some f.enough);
      }

  -- the size is sent by the end, and is exactly what is sent or is not sent one tick earlier
  pub find-end-exact : (lt_z (sent e.0) (pos v) ≡ false) × ((sent e.0 ≡ pos v) ⊎ (lt_z (sent (e.0 - 1)) (pos v) ≡ true))
  unfolding area_from
  find-end-exact =
      let f = found cap a b x v e h in
      rw f.is
      (end-reach cap x b v size f.some f.enough, end-tight cap x b v size f.some f.enough)

  -- where the capacity never falls from x to b, no earlier date suffices, unless exactly the size is sent
  pub find-end-first : ((i j : ℕ) → x ≤ i → i ≤ j → j ≤ b → lt_z (cap j) (cap i) ≡ false)
      → (sent e.0 ≡ pos v) ⊎ ((i : ℕ) → x ≤ i → i < e.0 → lt_z (sent i) (pos v) ≡ true)
  unfolding area_from
  find-end-first rises =
      let f = found cap a b x v e h in
      rw f.is (end-first cap x b v size f.some f.enough rises)

  -- where it rises from tick to tick, no earlier date suffices
  pub find-end-rises : ((i j : ℕ) → x ≤ i → i < j → j ≤ b → lt_z (cap i) (cap j) ≡ true)
      → (i : ℕ) → x ≤ i → i < e.0 → lt_z (sent i) (pos v) ≡ true
  unfolding area_from
  find-end-rises rises i from before =
      let f = found cap a b x v e h in
      end-rises cap x b v size f.some f.enough rises i from (omega (arith, f.is))
