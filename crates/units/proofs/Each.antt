-- A loop that tests each of the first n places of an array: turn by turn, what it tells of a place, and one test for another.
use Prim.Native.Nat.{ℕ, zero, suc, ◌+◌, ◌<◌, ◌≤◌}
use mathlib.Core.Bool.{Bool, true, false}
use mathlib.Core.Path.{◌≡◌, ap, ◌∙◌}
use mathlib.Core.List.{List, [], ◌∷◌}
use native.Mathlib.Omega.{arith}
use lib.ListN.{length, take, drop, get_or, drop_of_length-le}
use lib.Seq.{length-take-le, get_or-take}
use Rattle.units.specs.Logic.{both, all_of}
use Rattle.units.proofs.Loop.{item_here}
use Rattle.units.proofs.Logic.{both_go, both-stop, all_go, all_none, all_head, all_tail, same_test}
use Rattle.units.proofs.Places.{place-holds}
use Rattle.units.proofs.Unused.{Rest, rest-first, rest_end, rest-stop, rest-step}

module _ {A : Type 0} (p : A → Bool) where
  -- the loop stands at place i of the first n
  abbrev pub Each : List A → ℕ → ℕ → Type 0
  Each l n i = Rest p (take n l) n 0 i

  pub each_first : (l : List A) (n : ℕ) → Each l n 0
  each_first l n = rest-first p (take n l) n 0 (omega arith)

  module _ (l : List A) (n i : ℕ) (q : Each l n i) (size : n ≤ length l) where
    -- no place is left
    pub each-end : n ≤ i → all_of p (take n l) ≡ true
    each-end h = rest_end p (take n l) n 0 i q (length-take-le n l size) h

    module _ (z : A) (lt : i < n) where
      -- the place fails
      pub each-stop : p (get_or l i z) ≡ false → all_of p (take n l) ≡ false
      each-stop e = rest-stop p (take n l) n 0 i q (length-take-le n l size) z lt (ap p (get_or-take n l i z lt) ∙ e)

      -- a turn that goes on
      pub each_step : p (get_or l i z) ≡ true → Each l n (i + 1)
      each_step e = rest-step p (take n l) n 0 i q (length-take-le n l size) z lt (ap p (get_or-take n l i z lt) ∙ e)

  -- what is tested of each of the first n holds at a place
  pub each_at : (z : A) (l : List A) (n i : ℕ) → n ≤ length l → i < n → all_of p (take n l) ≡ true → p (get_or l i z) ≡ true
  each_at = place-holds (λ (a : A). p a ≡ true) (λ (l : List A). all_of p l ≡ true) (all_head p) (all_tail p)

module _ {A : Type 0} (p q : A → Bool) where
  pub all_weaker : ((a : A) → p a ≡ true → q a ≡ true) → (l : List A) → all_of p l ≡ true → all_of q l ≡ true
  all_weaker f [] e = all_none q
  all_weaker f (a ∷ l) e = all_go q a l (f a (all_head p a l e)) ∙ all_weaker f l (all_tail p a l e)

-- tests that tell the same of each
pub all_alike : {A : Type 0} (p q : A → Bool) → ((a : A) → p a ≡ true → q a ≡ true) → ((a : A) → q a ≡ true → p a ≡ true) → (l : List A)
    → all_of p l ≡ all_of q l
all_alike p q f g l = same_test _ _ (all_weaker p q f l) (all_weaker q p g l)

-- a test of each element holds of the first n, and of the others
module _ {A : Type 0} (p : A → Bool) where
  pub all_take : (n : ℕ) (l : List A) → all_of p l ≡ true → all_of p (take n l) ≡ true
  all_take zero l e = all_none p
  all_take (suc n) [] e = all_none p
  all_take (suc n) (a ∷ l) e = all_go p a (take n l) (all_head p a l e) ∙ all_take n l (all_tail p a l e)

  pub all_drop : (n : ℕ) (l : List A) → all_of p l ≡ true → all_of p (drop n l) ≡ true
  all_drop zero l e = e
  all_drop (suc n) [] e = all_none p
  all_drop (suc n) (a ∷ l) e = all_drop n l (all_tail p a l e)

-- A `for` that stops at the first element where the test fails: what is left of the list answers as the whole.
module _ {A : Type 0} (p : A → Bool) (l : List A) (i : ℕ) (q : all_of p l ≡ all_of p (drop i l)) where
  pub all-end : length l ≤ i → all_of p l ≡ true
  unfolding all_of
  all-end h = q ∙ ap (all_of p) (drop_of_length-le l h)

  module _ (a : A) (lt : i < length l) (e : a ≡ get_or l i a) where
    all-here : all_of p l ≡ both (p a) (all_of p (drop (i + 1) l))
    unfolding all_of
    all-here = q ∙ ap (all_of p) (item_here l i a lt e)

    pub all-fails : p a ≡ false → all_of p l ≡ false
    all-fails h = all-here ∙ both-stop _ _ h

    pub all-on : p a ≡ true → all_of p l ≡ all_of p (drop (i + 1) l)
    all-on h = all-here ∙ both_go _ _ h
