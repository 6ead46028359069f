-- A loop that reads rows a step apart and stores them in an array from the front: none yet, one store more, all. For any element.
use Prim.Native.Nat.{ℕ, zero, suc, ◌+◌, ◌*◌, ◌<◌, ◌≤◌}
use mathlib.Core.Path.{◌≡◌, refl, ap, ◌∙◌}
use mathlib.Core.List.{List, [], ◌∷◌, ◌++◌, append-nil}
use native.Mathlib.Nat.{sub_self}
use native.Mathlib.Numerals.{add-one}
use native.Mathlib.Omega.{arith}
use Rattle.std.proofs.lemmas.List.{take-replicate, drop-replicate}
use lib.ListN.{take, drop, length, set, replicate}
use Rattle.units.specs.Arrays.{padded}
use Rattle.units.proofs.Arrays.{padded-none, padded-store}
use Rattle.layout.specs.Segments.{rows}

module _ {A : Type 0} (f : ℕ → A) (step : ℕ) where
  pub length-rows : (at n : ℕ) → length (rows f step at n) ≡ n
  unfolding rows
  length-rows at zero = refl
  length-rows at (suc n) = ap suc (length-rows (at + step) n)

  rows_more : (at n : ℕ) → rows f step at (suc n) ≡ rows f step at n ++ (f (at + step * n) ∷ [])
  unfolding rows
  rows_more at zero = let e : at + step * 0 ≡ at = omega arith in rw e
  rows_more at (suc n) =
      let e : at + step * suc n ≡ at + step + step * n = omega arith in
      rw e (ap (λ (l : List A). f at ∷ l) (rows_more (at + step) n))

-- the first i rows are in a list of m places, and z is past them
module _ {A : Type 0} (f : ℕ → A) (step : ℕ) (z : A) (at : ℕ) where
  pub filled_none : (n m : ℕ) (d : A) → n ≤ m → d ≡ z → take n (replicate m d) ≡ padded n z (rows f step at 0)
  unfolding rows
  filled_none n m d h e = rw (e, take-replicate n m z h) (padded-none n z)

  pub filled-turn : (m i : ℕ) (a : List A) (x : A) → a ≡ padded m z (rows f step at i) → i < m → x ≡ f (at + step * i)
      → set a i x ≡ padded m z (rows f step at (i + 1))
  filled-turn m i a x q h e =
      rw (q, e, add-one i, rows_more f step at i)
      (padded-store m z (rows f step at i) (f (at + step * i)) i (length-rows f step at i) h)

  -- the rows fill the list
  pub filled-whole : (m : ℕ) → padded m z (rows f step at m) ≡ rows f step at m
  unfolding padded
  filled-whole m = rw (length-rows f step at m, sub_self m) (append-nil _)

  -- and with what was past it they are the array's
  pub filled-array : (m n : ℕ) (a : List A) (d : A) → a ≡ padded n z (rows f step at n) → d ≡ z → a ++ drop n (replicate m d) ≡ padded m z (rows f step at n)
  unfolding padded
  filled-array m n a d q e = rw (q ∙ filled-whole n, e, drop-replicate n m z, length-rows f step at n)
