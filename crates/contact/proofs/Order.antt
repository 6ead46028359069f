-- An opening's number is the one beside the first test that fails: 2, 3, 4, 6, 5.
use Prim.Native.Nat.{ℕ}
use mathlib.Core.Path.{◌≡◌, refl}
use mathlib.Core.List.{List, [], ◌∷◌}
use lib.ListN.{take}
use Rattle.units.specs.declared.Interval.{Interval}
use Rattle.units.specs.Limits.{window_ok}
use Rattle.units.specs.Order.{◌if-not◌, first_failed}
use Rattle.units.proofs.Order.{unless-number, none_number}
use Rattle.segmentation.specs.declared.RateSegment.{RateSegment}
use Rattle.segmentation.specs.declared.DelaySegment.{DelaySegment}
use Rattle.contact.specs.declared.Choices.{Choices}
use Rattle.contact.specs.declared.Opened.{Opened}
use Rattle.contact.specs.Choices.{choices_ok}
use Rattle.contact.specs.Segments.{rate_span, covers, delays_ok}
use Rattle.contact.specs.Open.{volume_ok, refused_contact, open_contact}

pub open-number : (h : Choices) (w : Interval) (rates : List RateSegment) (m : ℕ) (delays : List DelaySegment) (k : ℕ)
    → (open_contact h w rates m delays k).number
    ≡ first_failed (2 if-not choices_ok h ∷ 3 if-not window_ok w ∷ 4 if-not covers rate_span w m rates ∷ 6 if-not volume_ok (take m rates) ∷ 5 if-not delays_ok w k delays ∷ []) 0
unfolding open_contact
open-number h w rates m delays k =
    let number : Opened → ℕ = λ (o : Opened). o.number in
    unless-number number 2 0 (refused_contact 2) refl (choices_ok h) _ _
    (unless-number number 3 0 (refused_contact 3) refl (window_ok w) _ _
    (unless-number number 4 0 (refused_contact 4) refl (covers rate_span w m rates) _ _
    (unless-number number 6 0 (refused_contact 6) refl (volume_ok (take m rates)) _ _
    (unless-number number 5 0 (refused_contact 5) refl (delays_ok w k delays) _ _ (none_number 0)))))
