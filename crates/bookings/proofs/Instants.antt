-- A booking tick by tick: in the send interval the new level, everywhere else the old one.
use Prim.Native.Nat.{ℕ, ◌<◌, ◌≤◌}
use mathlib.Core.Bool.{true}
use mathlib.Core.Path.{◌≡◌, sym, ap, ◌∙◌}
use mathlib.Core.List.{List, [], ◌∷◌, ◌++◌}
use mathlib.Core.Logic.{⊎_elim, ◌⊎◌}
use native.Mathlib.Omega.{arith}
use lib.Dec.{leb, ltb}
use borrow.Author.Tests.{le-leb, lt-leb, lt-ltb, le-ltb}
use Rattle.units.specs.Logic.{both, pick}
use Rattle.units.proofs.Logic.{both-stop, both-not, both_yes}
use Rattle.units.proofs.Numbers.{le-or-lt}
use Rattle.bookings.specs.declared.BookingSegment.{BookingSegment}
use Rattle.bookings.specs.Listed.{level_at, cover_ok}
use Rattle.bookings.specs.Cut.{set_of}
use Rattle.bookings.proofs.Forms.{Form, early, late, whole, left, right, inside, form}
use Rattle.bookings.proofs.CoverLaws.{Cover, cover-of}

-- the level at a tick, of a segment that holds it, and past the segment
module _ (g : BookingSegment) (f : List BookingSegment) (t : ℕ) where
  pub level_in : g.start.0 ≤ t → t < g.end.0 → level_at (g ∷ f) t ≡ g.level.0
  unfolding level_at
  level_in h k = rw (both_yes _ _ (le-leb _ _ h) (lt-ltb _ _ k))

  pub level-past : g.end.0 ≤ t → level_at (g ∷ f) t ≡ level_at f t
  unfolding level_at
  level-past h = rw (both-not (leb g.start.0 t) _ (le-ltb _ _ h))

-- the level w in [s, e), else x
abbrev pub sent_level : ℕ → ℕ → ℕ → ℕ → ℕ → ℕ
sent_level s e w t x = pick (both (leb s t) (ltb t e)) w x

module _ (s e w t x : ℕ) where
  sent-in : s ≤ t → t < e → sent_level s e w t x ≡ w
  sent-in h k = rw (both_yes _ _ (le-leb _ _ h) (lt-ltb _ _ k))

  sent-before : t < s → sent_level s e w t x ≡ x
  sent-before h = rw (both-stop _ (ltb t e) (lt-leb _ _ h))

  sent-after : e ≤ t → sent_level s e w t x ≡ x
  sent-after h = rw (both-not (leb s t) _ (le-ltb _ _ h))

module _ (s e w : ℕ) (order : s ≤ e) (g : BookingSegment) (f : List BookingSegment) (t : ℕ) where
  form_in : (l : List BookingSegment) → Form s e w g l → g.start.0 ≤ t → t < g.end.0 → level_at (l ++ f) t ≡ sent_level s e w t g.level.0
  form_in l (early h q) a b = rw q (level_in _ _ t a b ∙ sym (sent-before s e w t g.level.0 (omega arith)))
  form_in l (late h k q) a b = rw q (level_in _ _ t a b ∙ sym (sent-after s e w t g.level.0 (omega arith)))
  form_in l (whole h k i j q) a b = rw q (level_in _ _ t a b ∙ sym (sent-in s e w t g.level.0 (omega arith) (omega arith)))
  form_in l (left h k i j q) a b =
      ⊎_elim
      (λ (x : s ≤ t). rw q (level-past _ _ t x ∙ level_in _ _ t x b ∙ sym (sent-in s e w t g.level.0 x (omega arith))))
      (λ (x : t < s). rw q (level_in _ _ t a x ∙ sym (sent-before s e w t g.level.0 x)))
      (le-or-lt s t)
  form_in l (right h k i j q) a b =
      ⊎_elim
      (λ (x : e ≤ t). rw q (level-past _ _ t x ∙ level_in _ _ t x b ∙ sym (sent-after s e w t g.level.0 x)))
      (λ (x : t < e). rw q (level_in _ _ t a x ∙ sym (sent-in s e w t g.level.0 (omega arith) x)))
      (le-or-lt e t)
  form_in l (inside h k i j q) a b =
      ⊎_elim
      (λ (x : s ≤ t).
      ⊎_elim
      (λ (y : e ≤ t). rw q (level-past _ _ t x ∙ level-past _ _ t y ∙ level_in _ _ t y b ∙ sym (sent-after s e w t g.level.0 y)))
      (λ (y : t < e). rw q (level-past _ _ t x ∙ level_in _ _ t x y ∙ sym (sent-in s e w t g.level.0 x y)))
      (le-or-lt e t))
      (λ (x : t < s). rw q (level_in _ _ t a x ∙ sym (sent-before s e w t g.level.0 x)))
      (le-or-lt s t)

  form-past : (l : List BookingSegment) → Form s e w g l → g.end.0 ≤ t → level_at (l ++ f) t ≡ level_at f t
  form-past l (early h q) b = rw q (level-past _ _ t b)
  form-past l (late h k q) b = rw q (level-past _ _ t b)
  form-past l (whole h k i j q) b = rw q (level-past _ _ t b)
  form-past l (left h k i j q) b = rw q (level-past _ _ t (omega arith) ∙ level-past _ _ t b)
  form-past l (right h k i j q) b = rw q (level-past _ _ t (omega arith) ∙ level-past _ _ t b)
  form-past l (inside h k i j q) b = rw q (level-past _ _ t (omega arith) ∙ level-past _ _ t (omega arith) ∙ level-past _ _ t b)

module _ (s e w : ℕ) (order : s ≤ e) (t : ℕ) where
  instants : (f : List BookingSegment) (a b : ℕ) → Cover a b f → a ≤ t → t < b → level_at (set_of s e w f) t ≡ sent_level s e w t (level_at f t)
  unfolding Cover set_of
  instants [] a b q h k = absurd (omega (arith, q))
  instants (g ∷ f) a b q h k =
      let from : g.start.0 ≤ t = omega (arith, q.0) in
      ⊎_elim
      (λ (x : g.end.0 ≤ t).
      form-past s e w order g (set_of s e w f) t _ (form s e w g) x
      ∙ instants f g.end.0 b q.3 x k
      ∙ ap (λ (y : ℕ). sent_level s e w t y) (sym (level-past g f t x)))
      (λ (x : t < g.end.0).
      form_in s e w order g (set_of s e w f) t _ (form s e w g) from x ∙ ap (λ (y : ℕ). sent_level s e w t y) (sym (level_in g f t from x)))
      (le-or-lt g.end.0 t)

  module _ (lo hi : ℕ) (f : List BookingSegment) (c : cover_ok lo hi f ≡ true) (from : lo ≤ t) (to : t < hi) where
    pub set-instants : level_at (set_of s e w f) t ≡ sent_level s e w t (level_at f t)
    set-instants = instants f lo hi (cover-of lo hi f c) from to

    -- in the send interval
    pub set-sent : s ≤ t → t < e → level_at (set_of s e w f) t ≡ w
    set-sent h k = set-instants ∙ sent-in s e w t (level_at f t) h k

    -- and outside it
    pub set_other : (t < s) ⊎ (e ≤ t) → level_at (set_of s e w f) t ≡ level_at f t
    set_other z =
        ⊎_elim
        (λ (h : t < s). set-instants ∙ sent-before s e w t (level_at f t) h)
        (λ (h : e ≤ t). set-instants ∙ sent-after s e w t (level_at f t) h)
        z
