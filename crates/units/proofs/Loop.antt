-- A loop over the first n places of an array: what is left of the list has the answer that is asked.
use Prim.Native.Nat.{ℕ, ◌+◌, ◌<◌, ◌≤◌}
use mathlib.Core.Path.{◌≡◌, refl, sym, ap, ◌∙◌}
use mathlib.Core.List.{List, [], ◌∷◌}
use native.Mathlib.Numerals.{add-one}
use native.Mathlib.Omega.{arith}
use lib.ListN.{length, take, drop, get_or, length-take, drop_of_length-le}
use lib.Seq.{drop-cons, get_or-take}

-- the element at a place, and those after it, of the first n
pub at_place : {A : Type 0} (l : List A) (n i : ℕ) (z : A) → n ≤ length l → i < n
    → drop i (take n l) ≡ get_or l i z ∷ drop (i + 1) (take n l)
at_place l n i z h k =
    let len : i < length (take n l) = simp length-take (omega arith) in
    rw (add-one, drop-cons (take n l) i z, get_or-take)

-- the same of a whole list
pub at-whole : {A : Type 0} (l : List A) (i : ℕ) (z : A) → i < length l → drop i l ≡ get_or l i z ∷ drop (i + 1) l
at-whole l i z h = rw (add-one, drop-cons l i z)

-- the item of a `for` over a list, and those after it
pub item_here : {A : Type 0} (l : List A) (i : ℕ) (a : A) → i < length l → a ≡ get_or l i a → drop i l ≡ a ∷ drop (i + 1) l
item_here {A = A} l i a h e = at-whole l i a h ∙ ap (λ (x : A). x ∷ drop (i + 1) l) (sym e)

-- F computes the answer from a state and a list; the loop stands at place i with state s
pub record Left {S A R : Type 0} (F : S → List A → R) (l : List A) (n : ℕ) (s₀ : S) (i : ℕ) (s : S) : Type 0 where
  pub low : i ≤ n
  pub same : F s₀ l ≡ F s (drop i l)

module _ {S A R : Type 0} (F : S → List A → R) (l : List A) (n : ℕ) (s₀ : S) where
  pub left-first : Left F l n s₀ 0 s₀
  left-first = record { low = omega arith; same = refl }

  module _ (i : ℕ) (s : S) (q : Left F l n s₀ i s) where
    -- no place is left
    pub left_end : length l ≤ i → F s₀ l ≡ F s []
    left_end h = q.same ∙ ap (λ (k : List A). F s k) (drop_of_length-le l h)

    module _ (a : A) (here : drop i l ≡ a ∷ drop (i + 1) l) where
      pub left_here : F s₀ l ≡ F s (a ∷ drop (i + 1) l)
      left_here = q.same ∙ ap (λ (k : List A). F s k) here

      -- a turn that goes on
      pub left_step : i < n → (s' : S) → F s (a ∷ drop (i + 1) l) ≡ F s' (drop (i + 1) l) → Left F l n s₀ (i + 1) s'
      left_step lt s' e = record { low = omega arith; same = left_here ∙ e }
