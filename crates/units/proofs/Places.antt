-- A loop over the first n places of an array, in terms of the array: `Left` at its element, and what is known of it.
use Prim.Native.Nat.{ℕ, zero, suc, ◌+◌, ◌<◌, ◌≤◌}
use mathlib.Core.Path.{◌≡◌}
use mathlib.Core.List.{List, [], ◌∷◌}
use native.Mathlib.Omega.{arith}
use lib.ListN.{length, take, drop, get_or, length-take}
use Rattle.units.proofs.Loop.{Left, at_place, left_end, left_here, left_step}

module _ {S A R : Type 0} (F : S → List A → R) (l : List A) (n : ℕ) (s₀ : S) (i : ℕ) (s : S) (q : Left F (take n l) n s₀ i s) where
  -- no place is left
  pub place_end : n ≤ i → F s₀ (take n l) ≡ F s []
  place_end h =
      let short : length (take n l) ≤ i = simp length-take (omega arith) in left_end F (take n l) n s₀ i s q short

  module _ (z : A) (size : n ≤ length l) (lt : i < n) where
    pub place_here : F s₀ (take n l) ≡ F s (get_or l i z ∷ drop (i + 1) (take n l))
    place_here = left_here F (take n l) n s₀ i s q (get_or l i z) (at_place l n i z size lt)

    -- a turn that goes on
    pub place-step : (s' : S) → F s (get_or l i z ∷ drop (i + 1) (take n l)) ≡ F s' (drop (i + 1) (take n l)) → Left F (take n l) n s₀ (i + 1) s'
    place-step s' e = left_step F (take n l) n s₀ i s q (get_or l i z) (at_place l n i z size lt) lt s' e

-- what is known of each of the first n is known of the one at a place
module _ {A : Type 0} (P : A → Type 0) (Q : List A → Type 0) (first : (a : A) (l : List A) → Q (a ∷ l) → P a) (rest : (a : A) (l : List A) → Q (a ∷ l) → Q l) (z : A) where
  pub place-holds : (l : List A) (n i : ℕ) → n ≤ length l → i < n → Q (take n l) → P (get_or l i z)
  place-holds [] n i h k q = absurd (omega arith)
  place-holds (a ∷ l) zero i h k q = absurd (omega arith)
  place-holds (a ∷ l) (suc n) zero h k q = first a (take n l) q
  place-holds (a ∷ l) (suc n) (suc i) h k q = place-holds l n i (omega arith) (omega arith) (rest a (take n l) q)
