-- Where no empty segment arises: an opening lists none, and setting a send that has a length adds none.
use Prim.Native.Nat.{ℕ, ◌<◌}
use mathlib.Core.Bool.{true}
use mathlib.Core.Path.{◌≡◌, refl}
use mathlib.Core.List.{List, [], ◌∷◌, ◌++◌}
use lib.ListN.{length}
use borrow.Author.Tests.{lt-ltb}
use Rattle.units.specs.Limits.{segments_max}
use Rattle.units.specs.Logic.{all_of}
use Rattle.units.specs.declared.Interval.{Interval}
use Rattle.units.proofs.Logic.{both_yes, both-fst, both-snd}
use Rattle.segmentation.specs.declared.RateSegment.{RateSegment}
use Rattle.segmentation.specs.declared.DelaySegment.{DelaySegment}
use Rattle.contact.specs.declared.Choices.{Choices}
use Rattle.contact.specs.Open.{contact_of}
use Rattle.contact.proofs.Sound.{sound}
use Rattle.bookings.specs.declared.BookingSegment.{BookingSegment}
use Rattle.bookings.specs.Cut.{parts_of, set_of}
use Rattle.bookings.proofs.Forms.{Form, early, late, whole, left, right, inside, form}
use Rattle.pseg.specs.Open.{whole_window, open_of}
use Rattle.bookings.proofs.CutLoop.{listed_in}
use Rattle.pseg.proofs.Kept.{opened-manager, opened-contact}
use Rattle.earliest.specs.Earliest.{filled, NoEmpty}

-- a send that has a length leaves no empty part of a segment that has one
module _ (s e w : ℕ) (lt : s < e) where
  parts-filled : (g : BookingSegment) (f l : List BookingSegment) → Form s e w g l → filled g ≡ true → all_of filled f ≡ true → all_of filled (l ++ f) ≡ true
  unfolding all_of
  parts-filled g f l (early a q) h k = rw q (both_yes _ _ h k)
  parts-filled g f l (late a b q) h k = rw q (both_yes _ _ h k)
  parts-filled g f l (whole a b c d q) h k = rw q (both_yes _ _ h k)
  parts-filled g f l (left a b c d q) h k = rw q (both_yes _ _ (lt-ltb _ _ a) (both_yes _ _ (lt-ltb _ _ b) k))
  parts-filled g f l (right a b c d q) h k = rw q (both_yes _ _ (lt-ltb _ _ b) (both_yes _ _ (lt-ltb _ _ d) k))
  parts-filled g f l (inside a b c d q) h k = rw q (both_yes _ _ (lt-ltb _ _ a) (both_yes _ _ (lt-ltb _ _ lt) (both_yes _ _ (lt-ltb _ _ d) k)))

  pub set-filled : (f : List BookingSegment) → all_of filled f ≡ true → all_of filled (set_of s e w f) ≡ true
  unfolding set_of all_of
  set-filled [] h = h
  set-filled (g ∷ f) h = parts-filled g (set_of s e w f) (parts_of s e w g) (form s e w g) (both-fst _ _ h) (set-filled f (both-snd _ _ h))

pub opened-filled : (h : Choices) (w : Interval) (rates : List RateSegment) (m : ℕ) (delays : List DelaySegment) (k : ℕ)
    → length rates ≡ segments_max → length delays ≡ segments_max → (open_of h w rates m delays k).number ≡ 0 → NoEmpty (open_of h w rates m delays k).manager
unfolding all_of
opened-filled h w rates m delays k rate-size delay-size zero =
    let c = contact_of h w rates m delays k in
    let some = (sound c (opened-contact h w rates m delays k zero rate-size delay-size)).some in
    rw ((opened-manager h w rates m delays k zero).1, listed_in (whole_window w ∷ [])) (both_yes _ _ (lt-ltb _ _ some) refl)
