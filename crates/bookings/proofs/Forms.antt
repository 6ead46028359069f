-- What a booking leaves of a segment, in six forms: the segment lies before or after the send interval, inside it, across its start, its end or both.
use Prim.Native.Nat.{ℕ, ◌<◌, ◌≤◌, max, min}
use mathlib.Core.Path.{◌≡◌, ap, ◌∙◌}
use mathlib.Core.List.{List, [], ◌∷◌, ◌++◌}
use mathlib.Core.Logic.{⊎_elim}
use native.Mathlib.Omega.{arith}
use lib.Dec.{ltb}
use borrow.Author.Tests.{lt-ltb, le-ltb}
use Rattle.units.proofs.Logic.{both_go, both-stop}
use Rattle.units.proofs.Numbers.{le-or-lt}
use Rattle.bookings.specs.declared.BookingSegment.{BookingSegment}
use Rattle.bookings.specs.Cut.{segment, before_of, sent_of, after_of, parts_of}

pub data Form (s e w : ℕ) (g : BookingSegment) (l : List BookingSegment) : Type 0 where
  early : g.end.0 ≤ s → l ≡ g ∷ [] → Form s e w g l
  late : s < g.end.0 → e ≤ g.start.0 → l ≡ g ∷ [] → Form s e w g l
  whole : s ≤ g.start.0 → s < g.end.0 → g.start.0 < e → g.end.0 ≤ e → l ≡ segment g.start.0 g.end.0 w ∷ [] → Form s e w g l
  left : g.start.0 < s → s < g.end.0 → g.start.0 < e → g.end.0 ≤ e
      → l ≡ segment g.start.0 s g.level.0 ∷ segment s g.end.0 w ∷ [] → Form s e w g l
  right : s ≤ g.start.0 → g.start.0 < e → s < g.end.0 → e < g.end.0
      → l ≡ segment g.start.0 e w ∷ segment e g.end.0 g.level.0 ∷ [] → Form s e w g l
  inside : g.start.0 < s → s < g.end.0 → g.start.0 < e → e < g.end.0
      → l ≡ segment g.start.0 s g.level.0 ∷ segment s e w ∷ segment e g.end.0 g.level.0 ∷ [] → Form s e w g l

module _ (s e w : ℕ) (g : BookingSegment) where
  pub parts-early : g.end.0 ≤ s → parts_of s e w g ≡ g ∷ []
  unfolding parts_of
  parts-early h = rw (both-stop (ltb s g.end.0) (ltb g.start.0 e) (le-ltb _ _ h))

  pub parts-late : s < g.end.0 → e ≤ g.start.0 → parts_of s e w g ≡ g ∷ []
  unfolding parts_of
  parts-late h k = rw (both_go (ltb s g.end.0) (ltb g.start.0 e) (lt-ltb _ _ h), le-ltb _ _ k)

  module _ (h : s < g.end.0) (k : g.start.0 < e) where
    pub parts-on : parts_of s e w g ≡ before_of s g ++ (sent_of s e w g ∷ after_of e g)
    unfolding parts_of
    parts-on = rw (both_go (ltb s g.end.0) (ltb g.start.0 e) (lt-ltb _ _ h), lt-ltb _ _ k)

    pub parts_whole : s ≤ g.start.0 → g.end.0 ≤ e → parts_of s e w g ≡ sent_of s e w g ∷ []
    parts_whole a b = parts-on ∙ rw (le-ltb _ _ a, le-ltb _ _ b)

    pub parts-left : g.start.0 < s → g.end.0 ≤ e → parts_of s e w g ≡ segment g.start.0 s g.level.0 ∷ sent_of s e w g ∷ []
    parts-left a b = parts-on ∙ rw (lt-ltb _ _ a, le-ltb _ _ b)

    pub parts-right : s ≤ g.start.0 → e < g.end.0 → parts_of s e w g ≡ sent_of s e w g ∷ segment e g.end.0 g.level.0 ∷ []
    parts-right a b = parts-on ∙ rw (le-ltb _ _ a, lt-ltb _ _ b)

    pub parts-inside : g.start.0 < s → e < g.end.0
        → parts_of s e w g ≡ segment g.start.0 s g.level.0 ∷ sent_of s e w g ∷ segment e g.end.0 g.level.0 ∷ []
    parts-inside a b = parts-on ∙ rw (lt-ltb _ _ a, lt-ltb _ _ b)

    -- the part in between, with its ends named
    sent_is : (a b : ℕ) → max g.start.0 s ≡ a → min g.end.0 e ≡ b → sent_of s e w g ≡ segment a b w
    sent_is a b x y = ap (λ (n : ℕ). segment n (min g.end.0 e) w) x ∙ ap (λ (n : ℕ). segment a n w) y

    on-form : Form s e w g (parts_of s e w g)
    on-form =
        ⊎_elim
        (λ (a : s ≤ g.start.0).
        ⊎_elim
        (λ (b : g.end.0 ≤ e). whole a h k b (parts_whole a b ∙ ap (λ (x : BookingSegment). x ∷ []) (sent_is _ _ (omega arith) (omega arith))))
        (λ (b : e < g.end.0).
        right a k h b (parts-right a b ∙ ap (λ (x : BookingSegment). x ∷ segment e g.end.0 g.level.0 ∷ []) (sent_is _ _ (omega arith) (omega arith))))
        (le-or-lt g.end.0 e))
        (λ (a : g.start.0 < s).
        ⊎_elim
        (λ (b : g.end.0 ≤ e).
        left a h k b (parts-left a b ∙ ap (λ (x : BookingSegment). segment g.start.0 s g.level.0 ∷ x ∷ []) (sent_is _ _ (omega arith) (omega arith))))
        (λ (b : e < g.end.0).
        inside a h k b
        (parts-inside a b
        ∙ ap (λ (x : BookingSegment). segment g.start.0 s g.level.0 ∷ x ∷ segment e g.end.0 g.level.0 ∷ []) (sent_is _ _ (omega arith) (omega arith))))
        (le-or-lt g.end.0 e))
        (le-or-lt s g.start.0)

  pub form : Form s e w g (parts_of s e w g)
  form =
      ⊎_elim
      (λ (h : g.end.0 ≤ s). early h (parts-early h))
      (λ (h : s < g.end.0).
      ⊎_elim
      (λ (k : e ≤ g.start.0). late h k (parts-late h k))
      (λ (k : g.start.0 < e). on-form h k)
      (le-or-lt e g.start.0))
      (le-or-lt g.end.0 s)
