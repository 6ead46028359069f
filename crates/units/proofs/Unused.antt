-- A loop that tests the places of an array from a count on: what is left has the answer that is asked.
use Prim.Native.Nat.{ℕ, ◌+◌, ◌<◌, ◌≤◌}
use mathlib.Core.Bool.{Bool, true, false}
use mathlib.Core.Path.{◌≡◌, refl, ap, ◌∙◌}
use mathlib.Core.List.{List, ◌∷◌}
use native.Mathlib.Omega.{arith}
use lib.ListN.{length, drop, get_or, drop_of_length-le}
use Rattle.units.specs.Logic.{all_of}
use Rattle.units.proofs.Logic.{all_go, all-stop, all_none}
use Rattle.units.proofs.Loop.{at-whole}

-- of m places, those from n on are asked, and the loop stands at place i
pub record Rest {A : Type 0} (p : A → Bool) (l : List A) (m n i : ℕ) : Type 0 where
  pub low : i ≤ m
  pub same : all_of p (drop n l) ≡ all_of p (drop i l)

module _ {A : Type 0} (p : A → Bool) (l : List A) (m n : ℕ) where
  pub rest-first : n ≤ m → Rest p l m n n
  rest-first h = record { low = h; same = refl }

  module _ (i : ℕ) (q : Rest p l m n i) (size : length l ≡ m) where
    -- no place is left
    pub rest_end : m ≤ i → all_of p (drop n l) ≡ true
    rest_end h = q.same ∙ ap (all_of p) (drop_of_length-le l {i = i} (omega arith)) ∙ all_none p

    module _ (z : A) (lt : i < m) where
      rest-here : all_of p (drop n l) ≡ all_of p (get_or l i z ∷ drop (i + 1) l)
      rest-here = q.same ∙ ap (all_of p) (at-whole l i z (omega arith))

      -- the place fails
      pub rest-stop : p (get_or l i z) ≡ false → all_of p (drop n l) ≡ false
      rest-stop e = rest-here ∙ all-stop p _ _ e

      -- a turn that goes on
      pub rest-step : p (get_or l i z) ≡ true → Rest p l m n (i + 1)
      rest-step e = record { low = omega arith; same = rest-here ∙ all_go p _ _ e }
