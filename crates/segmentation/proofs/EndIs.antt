-- The end that `end_of` gives has 01's sentence, for every size above 0, and it alone has.
use Rattle.std.specs.Prelude.{Option, Some}
use Rattle.units.specs.declared.Date.{Date}
use Prim.Native.Nat.{ℕ, zero, suc, ◌+◌, ◌-◌, ◌<◌, ◌≤◌}
use mathlib.Core.Path.{◌≡◌, sym, ap, ◌∙◌}
use mathlib.Core.List.{List}
use mathlib.Core.Logic.{⊎_elim}
use native.Mathlib.Omega.{arith}
use borrow.Author.Tests.{le-leb, lt-leb, eq-eqb, ne_eqb}
use Rattle.units.proofs.Numbers.{le-or-lt, eq-or-ne}
use Rattle.segmentation.specs.declared.VolumeSegment.{VolumeSegment}
use Rattle.segmentation.specs.Capacity.{cap_of, capacity}
use Rattle.segmentation.specs.End.{Reach, close_of, round_of, by_deadline, end_given, end_of}
use Rattle.segmentation.specs.EndIs.{FirstTick, Rounded, EndIs, in-time, late, no-tick}
use Rattle.segmentation.proofs.Reach.{Reached, Found, found, lost, reach-is, end_by, end-never}

module _ (k : ℕ) (l : List VolumeSegment) (a v d : ℕ) (pos : 0 < v) where
  cap-at : (m : ℕ) → capacity l a (a + m) ≡ cap_of l a m
  cap-at m = let q : (a + m) - a ≡ m = omega arith in rw q

  some-tick : (m : ℕ) → Reached l a v m → 0 < m
  unfolding cap_of
  some-tick zero h = let z = h.reaches in absurd (omega arith)
  some-tick (suc m) h = omega arith

  first : (m : ℕ) → m ≤ close_of a l - a → Reached l a v m → FirstTick l a v (close_of a l) (a + m)
  first m le h =
      let p = some-tick m h in
      record {
        from = omega arith;
        within = omega (arith, p, le);
        reached = rw (cap-at m) h.reaches;
        before = λ t x y. h.before (t - a) (omega arith);
      }

  rounded : (m : ℕ) → Reached l a v m → Rounded k l a v (a + m) (round_of k (cap_of l a m) v (a + m))
  rounded m h =
      let p = some-tick m h in
      record {
        second = λ two. rw (eq-eqb k 2 two);
        equal = λ one e. rw (ne_eqb k 2 one, eq-eqb (cap_of l a m) v (sym (cap-at m) ∙ e));
        above = λ one q. let n : cap_of l a m ≡ v → ⊥ = λ e. omega (arith, q, e, cap-at m) in rw (ne_eqb k 2 one, ne_eqb (cap_of l a m) v n) (omega (arith, p));
      }

  by-case : (m : ℕ) → m ≤ close_of a l - a → Reached l a v m → (r : (Option Date)) → r ≡ by_deadline d (round_of k (cap_of l a m) v (a + m)) → EndIs k l a v (close_of a l) d r
  by-case m le h r e =
      let x = round_of k (cap_of l a m) v (a + m) in
      ⊎_elim
      (λ (q : x ≤ d). in-time (a + m) x (first m le h) (rounded m h) q (e ∙ rw (le-leb x d q)))
      (λ (q : d < x). late (a + m) x (first m le h) (rounded m h) q (e ∙ rw (lt-leb x d q)))
      (le-or-lt x d)

  of-search : (r : Reach) → Found l a v (close_of a l - a) r → EndIs k l a v (close_of a l) d (end_given k l a v d r)
  of-search r (found m le h e) = by-case m le h _ (end_by k l a v d m r e)
  of-search r (lost f e) =
      no-tick (λ u q. let x = f (u - a) (omega (arith, q.from, q.within)) in omega (arith, x, q.reached)) (end-never k l a v d r e)

  pub end_is : EndIs k l a v (close_of a l) d (end_of k l a v d)
  unfolding end_of
  end_is = of-search _ (reach-is l a v (close_of a l - a))

-- the sentence leaves one answer
module _ (k : ℕ) (l : List VolumeSegment) (a v z d : ℕ) where
  one-tick : (u w : ℕ) → FirstTick l a v z u → FirstTick l a v z w → u ≡ w
  one-tick u w x y =
      ⊎_elim
      (λ (le : u ≤ w). ⊎_elim (λ (ge : w ≤ u). omega arith) (λ (lt : u < w). let q = y.before u x.from lt in absurd (omega (arith, q, x.reached))) (le-or-lt w u))
      (λ (lt : w < u). let q = x.before w y.from lt in absurd (omega (arith, q, y.reached)))
      (le-or-lt u w)

  one_end : (u e f : ℕ) → FirstTick l a v z u → Rounded k l a v u e → Rounded k l a v u f → e ≡ f
  one_end u e f t x y =
      ⊎_elim
      (λ (two : k ≡ 2). x.second two ∙ sym (y.second two))
      (λ (one : k ≡ 2 → ⊥).
      ⊎_elim
      (λ (same : capacity l a u ≡ v). x.equal one same ∙ sym (y.equal one same))
      (λ (other : capacity l a u ≡ v → ⊥).
      let more : v < capacity l a u = ⊎_elim (λ (le : capacity l a u ≤ v). absurd (other (omega (arith, le, t.reached)))) (λ (lt : v < capacity l a u). lt) (le-or-lt (capacity l a u) v) in
      omega (arith, x.above one more, y.above one more))
      (eq-or-ne (capacity l a u) v))
      (eq-or-ne k 2)

  same_end : (u w e f : ℕ) → FirstTick l a v z u → FirstTick l a v z w → Rounded k l a v u e → Rounded k l a v w f → e ≡ f
  same_end u w e f x y p q = let s : u ≡ w = one-tick u w x y in one_end u e f x p (rw s q)

  pub one-end-is : (r s : (Option Date)) → EndIs k l a v z d r → EndIs k l a v z d s → r ≡ s
  one-end-is r s (in-time u e x p le h) (in-time w f y q lf g) = h ∙ ap (λ (n : ℕ). Some (record { 0 = n })) (same_end u w e f x y p q) ∙ sym g
  one-end-is r s (in-time u e x p le h) (late w f y q lf g) = absurd (omega (arith, le, lf, same_end u w e f x y p q))
  one-end-is r s (in-time u e x p le h) (no-tick n g) = absurd (n u x)
  one-end-is r s (late u e x p le h) (in-time w f y q lf g) = absurd (omega (arith, le, lf, same_end u w e f x y p q))
  one-end-is r s (late u e x p le h) (late w f y q lf g) = h ∙ sym g
  one-end-is r s (late u e x p le h) (no-tick n g) = absurd (n u x)
  one-end-is r s (no-tick m h) (in-time w f y q lf g) = absurd (m w y)
  one-end-is r s (no-tick m h) (late w f y q lf g) = absurd (m w y)
  one-end-is r s (no-tick m h) (no-tick n g) = h ∙ sym g
