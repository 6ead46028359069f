-- An opening's number is the one beside the first test that fails: 2, 3, 5, 11.
use Prim.Native.Nat.{ℕ}
use mathlib.Core.Path.{◌≡◌, refl}
use mathlib.Core.List.{List, [], ◌∷◌}
use Rattle.units.specs.declared.Interval.{Interval}
use Rattle.units.specs.Limits.{window_ok}
use Rattle.units.specs.Order.{◌if-not◌, first_failed}
use Rattle.units.proofs.Order.{unless-number, none_number}
use Rattle.segmentation.specs.declared.DelaySegment.{DelaySegment}
use Rattle.poly.specs.declared.Polynome.{Polynome}
use Rattle.poly.specs.Poly.{poly_ok}
use Rattle.poly_seg.specs.declared.Choices.{Choices}
use Rattle.poly_seg.specs.declared.Opened.{Opened}
use Rattle.poly_seg.specs.Choices.{choices_ok}
use Rattle.poly_seg.specs.Open.{delays_by, refused_opening, open_of}

pub open-number : (h : Choices) (w : Interval) (p : Polynome) (delays : List DelaySegment) (k : ℕ)
    → (open_of h w p delays k).number
    ≡ first_failed (2 if-not choices_ok h ∷ 3 if-not window_ok w ∷ 5 if-not delays_by h.rule.0 w k delays ∷ 11 if-not poly_ok h.mode.0 p w ∷ []) 0
unfolding open_of
open-number h w p delays k =
    let number : Opened → ℕ = λ (o : Opened). o.number in
    unless-number number 2 0 (refused_opening 2) refl (choices_ok h) _ _
    (unless-number number 3 0 (refused_opening 3) refl (window_ok w) _ _
    (unless-number number 5 0 (refused_opening 5) refl (delays_by h.rule.0 w k delays) _ _
    (unless-number number 11 0 (refused_opening 11) refl (poly_ok h.mode.0 p w) _ _ (none_number 0))))
