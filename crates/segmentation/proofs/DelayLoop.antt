-- The lookup of a delay: the state of its loop.
use Prim.Native.Nat.{ℕ, ◌+◌, ◌-◌, ◌≤◌}
use mathlib.Core.Bool.{true, false}
use mathlib.Core.Path.{◌≡◌, refl, sym, ap, ◌∙◌}
use mathlib.Core.List.{List, [], ◌∷◌}
use native.Mathlib.Omega.{arith}
use lib.ListN.{length, drop, drop_of_length-le, length-drop}
use Rattle.segmentation.specs.declared.DelaySegment.{DelaySegment}
use Rattle.segmentation.specs.Delay.{belongs, from_date}

module _ (rule : ℕ) where
  pub from-none : (t : ℕ) → from_date rule [] t ≡ []
  unfolding from_date
  from-none t = refl

  module _ (s : DelaySegment) (l : List DelaySegment) (t : ℕ) where
    pub from-here : belongs rule t s (length l) ≡ true → from_date rule (s ∷ l) t ≡ s ∷ l
    unfolding from_date
    from-here h = simp h

    pub from_on : belongs rule t s (length l) ≡ false → from_date rule (s ∷ l) t ≡ from_date rule l t
    unfolding from_date
    from_on h = simp h

-- `from_date`: what is left of the list finds what is asked.
module _ (rule : ℕ) (l : List DelaySegment) (t i : ℕ) (q : from_date rule l t ≡ from_date rule (drop i l) t) where
  pub look-end : length l ≤ i → from_date rule l t ≡ []
  look-end h = q ∙ ap (λ (k : List DelaySegment). from_date rule k t) (drop_of_length-le l {i = i} h) ∙ from-none rule t

  module _ (s : DelaySegment) (here : drop i l ≡ s ∷ drop (i + 1) l) where
    -- how many segments stand after the place
    after : length (drop (i + 1) l) ≡ length l - i - 1
    after = simp length-drop (omega arith)

    pub look-here : belongs rule t s (length l - i - 1) ≡ true → from_date rule l t ≡ drop i l
    look-here h =
        q ∙ ap (λ (k : List DelaySegment). from_date rule k t) here ∙ from-here rule s (drop (i + 1) l) t (ap (belongs rule t s) after ∙ h) ∙ sym here

    pub look-on : belongs rule t s (length l - i - 1) ≡ false → from_date rule l t ≡ from_date rule (drop (i + 1) l) t
    look-on h =
        q ∙ ap (λ (k : List DelaySegment). from_date rule k t) here ∙ from_on rule s (drop (i + 1) l) t (ap (belongs rule t s) after ∙ h)
