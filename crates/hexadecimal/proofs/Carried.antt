-- A loop that carries whether every element so far passed a test, with no way out before the end.
use Rattle.std.proofs.Common.{◌≡◌, ℕ, ◌+◌, ◌<◌, ◌≤◌, Bool, true, false, ◌&&◌, List, ◌∷◌, length, get_or, drop, sym, refl, ap, ◌∙◌}
use Rattle.units.specs.Logic.{both, all_of}
use Rattle.units.proofs.Logic.{both_go, both-only, all_none}
use Rattle.units.proofs.Loop.{Left, at-whole, left-first, left_end, left_step}

module _ {A : Type 0} (p : A → Bool) where
  -- those so far, and those that are left
  abbrev carried : Bool → List A → Bool
  carried good l = both good (all_of p l)

  carried-cons : (good : Bool) (a : A) (l : List A) → carried good (a ∷ l) ≡ carried (good && p a) l
  unfolding both all_of
  carried-cons true a l = refl
  carried-cons false a l = refl

  module _ (l : List A) where
    -- the loop stands at place i
    abbrev pub Carried : ℕ → Bool → Type 0
    Carried i good = Left carried l (length l) true i good

    pub carried_first : Carried 0 true
    carried_first = left-first carried l (length l) true

    module _ (i : ℕ) (good : Bool) (q : Carried i good) where
      pub carried-end : length l ≤ i → good ≡ all_of p l
      carried-end h =
          sym (sym (both_go true (all_of p l) refl) ∙ left_end carried l (length l) true i good q h ∙ both-only good _ (all_none p))

      pub carried_step : (z : A) (d : Bool) → i < length l → d ≡ p (get_or l i z) → Carried (i + 1) (good && d)
      carried_step z d h e =
          left_step carried l (length l) true i good q (get_or l i z) (at-whole l i z h) h (good && d)
          (carried-cons good (get_or l i z) (drop (i + 1) l) ∙ ap (λ (b : Bool). carried (good && b) (drop (i + 1) l)) (sym e))
