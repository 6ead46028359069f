-- An array whose places past a count are unused holds its first places and nothing else; a store in it is a store in the list.
use Prim.Native.Nat.{ℕ, suc, ◌-◌, ◌<◌, ◌≤◌}
use mathlib.Core.Bool.{Bool, true}
use mathlib.Core.Path.{◌≡◌, refl, sym, ap, ◌∙◌}
use mathlib.Core.List.{List, [], ◌∷◌, ◌++◌}
use native.Mathlib.Omega.{arith}
use lib.ListN.{length, take, drop, set, replicate, length-set, length-drop, take-append-drop}
use lib.Seq.{set-append_left, set_split, length-take-le}
use Rattle.units.specs.Logic.{all_of}
use Rattle.units.specs.Arrays.{padded}
use Rattle.units.proofs.Logic.{all_head, all_tail}

-- only z passes the test
module _ {A : Type 0} (p : A → Bool) (z : A) (only : (x : A) → p x ≡ true → x ≡ z) where
  all_are : (l : List A) → all_of p l ≡ true → l ≡ replicate (length l) z
  all_are [] h = refl
  all_are (a ∷ l) h =
      ap (λ (x : A). x ∷ l) (only a (all_head p a l h)) ∙ ap (λ (k : List A). z ∷ k) (all_are l (all_tail p a l h))

  pub padded-is : (m n : ℕ) (l : List A) → length l ≡ m → n ≤ m → all_of p (drop n l) ≡ true → l ≡ padded m z (take n l)
  unfolding padded
  padded-is m n l size le h =
      let few : length (take n l) ≡ n = length-take-le n l (omega arith) in
      let left : length (drop n l) ≡ m - length (take n l) = simp length-drop (omega arith) in
      sym (take-append-drop n l)
      ∙ ap (λ (k : List A). take n l ++ k) (all_are (drop n l) h ∙ ap (λ (k : ℕ). replicate k z) left)

module _ {A : Type 0} (m : ℕ) (z : A) (l : List A) (i : ℕ) (x : A) (lt : i < length l) where
  -- a store at a place of the list
  pub padded-set : set (padded m z l) i x ≡ padded m z (take i l ++ (x ∷ drop (suc i) l))
  unfolding padded
  padded-set =
      let size : length (set l i x) ≡ length l = length-set l i x in
      set-append_left l (replicate (m - length l) z) i x lt
      ∙ ap (λ (k : ℕ). set l i x ++ replicate (m - k) z) (sym size)
      ∙ ap (λ (k : List A). k ++ replicate (m - length k) z) (set_split l i x lt)
