-- What a booking keeps of a list: it covers the window, no segment goes, and at most two come in.
use Prim.Native.Nat.{ℕ, ◌+◌, ◌<◌, ◌≤◌}
use mathlib.Core.Bool.{true}
use mathlib.Core.Path.{◌≡◌, refl, sym}
use mathlib.Core.List.{List, [], ◌∷◌, ◌++◌}
use mathlib.Core.Logic.{⊎_elim}
use native.Mathlib.Omega.{arith}
use lib.Dec.{ltb}
use lib.ListN.{length}
use borrow.Author.Tests.{lt-ltb, le-ltb}
use Rattle.units.specs.Logic.{both, pick}
use Rattle.units.proofs.Logic.{both-stop, both-not, both_yes}
use Rattle.units.proofs.Numbers.{le-or-lt}
use Rattle.bookings.specs.declared.BookingSegment.{BookingSegment}
use Rattle.bookings.specs.Listed.{level_max, cover_ok}
use Rattle.bookings.specs.Cut.{set_of}
use Rattle.bookings.proofs.Forms.{Form, early, late, whole, left, right, inside, form}
use Rattle.bookings.proofs.CoverLaws.{Cover, cover-of, cover-true}

module _ (s e w : ℕ) (order : s ≤ e) (low : w ≤ level_max) where
  form-cover : (g : BookingSegment) (f : List BookingSegment) (b : ℕ) (l : List BookingSegment) → Form s e w g l
      → g.start.0 ≤ g.end.0 → g.level.0 ≤ level_max → Cover g.end.0 b f → Cover g.start.0 b (l ++ f)
  unfolding Cover
  form-cover g f b l (early h q) a k r = rw q (refl, a, k, r)
  form-cover g f b l (late h i q) a k r = rw q (refl, a, k, r)
  form-cover g f b l (whole h i j x q) a k r = rw q (refl, a, low, r)
  form-cover g f b l (left h i j x q) a k r = rw q (refl, omega arith, k, (refl, omega arith, low, r))
  form-cover g f b l (right h i j x q) a k r = rw q (refl, omega arith, low, (refl, omega arith, k, r))
  form-cover g f b l (inside h i j x q) a k r = rw q (refl, omega arith, k, (refl, order, low, (refl, omega arith, k, r)))

  cover-set : (f : List BookingSegment) (a b : ℕ) → Cover a b f → Cover a b (set_of s e w f)
  unfolding Cover set_of
  cover-set [] a b q = q
  cover-set (g ∷ f) a b q =
      rw (sym q.0) (form-cover g (set_of s e w f) b _ (form s e w g) q.1 q.2 (cover-set f g.end.0 b q.3))

  pub set-cover : (lo hi : ℕ) (f : List BookingSegment) → cover_ok lo hi f ≡ true → cover_ok lo hi (set_of s e w f) ≡ true
  set-cover lo hi f c = cover-true lo hi (set_of s e w f) (cover-set f lo hi (cover-of lo hi f c))

module _ (s e w : ℕ) where
  form-more : (g : BookingSegment) (f l : List BookingSegment) → Form s e w g l → 1 + length f ≤ length (l ++ f)
  form-more g f l (early h q) = rw q (omega arith)
  form-more g f l (late h i q) = rw q (omega arith)
  form-more g f l (whole h i j x q) = rw q (omega arith)
  form-more g f l (left h i j x q) = rw q (omega arith)
  form-more g f l (right h i j x q) = rw q (omega arith)
  form-more g f l (inside h i j x q) = rw q (omega arith)

  -- no segment goes
  pub set_more : (f : List BookingSegment) → length f ≤ length (set_of s e w f)
  unfolding set_of
  set_more [] = omega arith
  set_more (g ∷ f) = omega (arith, form-more g (set_of s e w f) _ (form s e w g), set_more f)

  -- a list that is not empty stays so
  pub set-some : (f : List BookingSegment) → 1 ≤ length f → 1 ≤ length (set_of s e w f)
  set-some f h = omega (arith, set_more f)

-- 1 for a segment that holds the date strictly inside, and so it is cut there
unfoldable inside_of : ℕ → BookingSegment → ℕ
inside_of t g = pick (both (ltb g.start.0 t) (ltb t g.end.0)) 1 0

unfoldable cuts_of : ℕ → List BookingSegment → ℕ
cuts_of t [] = 0
cuts_of t (g ∷ f) = inside_of t g + cuts_of t f

module _ (t : ℕ) (g : BookingSegment) where
  inside_one : g.start.0 < t → t < g.end.0 → inside_of t g ≡ 1
  unfolding inside_of
  inside_one h k = rw (both_yes _ _ (lt-ltb _ _ h) (lt-ltb _ _ k))

  inside-low : t ≤ g.start.0 → inside_of t g ≡ 0
  unfolding inside_of
  inside-low h = rw (both-stop _ (ltb t g.end.0) (le-ltb _ _ h))

  inside_past : g.end.0 ≤ t → inside_of t g ≡ 0
  unfolding inside_of
  inside_past h = rw (both-not (ltb g.start.0 t) _ (le-ltb _ _ h))

-- a list that covers a window is cut at a date once at most
cuts-none : (t : ℕ) (f : List BookingSegment) (a b : ℕ) → Cover a b f → t ≤ a → cuts_of t f ≡ 0
unfolding Cover cuts_of
cuts-none t [] a b q h = refl
cuts-none t (g ∷ f) a b q h =
    omega (arith, inside-low t g (omega (arith, q.0)), cuts-none t f g.end.0 b q.3 (omega (arith, q.0, q.1)))

cuts-one : (t : ℕ) (f : List BookingSegment) (a b : ℕ) → Cover a b f → cuts_of t f ≤ 1
unfolding Cover cuts_of
cuts-one t [] a b q = omega arith
cuts-one t (g ∷ f) a b q =
    ⊎_elim
    (λ (h : g.end.0 ≤ t). omega (arith, inside_past t g h, cuts-one t f g.end.0 b q.3))
    (λ (h : t < g.end.0).
    ⊎_elim
    (λ (k : t ≤ g.start.0). omega (arith, inside-low t g k, cuts-none t f g.end.0 b q.3 (omega arith)))
    (λ (k : g.start.0 < t). omega (arith, inside_one t g k h, cuts-none t f g.end.0 b q.3 (omega arith)))
    (le-or-lt t g.start.0))
    (le-or-lt g.end.0 t)

module _ (s e w : ℕ) (order : s ≤ e) where
  form-count : (g : BookingSegment) (f l : List BookingSegment) → Form s e w g l → length (l ++ f) ≡ 1 + (inside_of s g + inside_of e g) + length f
  form-count g f l (early h q) = rw (q, inside_past s g h, inside_past e g (omega arith)) (omega arith)
  form-count g f l (late h i q) = rw (q, inside-low s g (omega arith), inside-low e g i) (omega arith)
  form-count g f l (whole h i j x q) = rw (q, inside-low s g h, inside_past e g x) (omega arith)
  form-count g f l (left h i j x q) = rw (q, inside_one s g h i, inside_past e g x) (omega arith)
  form-count g f l (right h i j x q) = rw (q, inside-low s g h, inside_one e g i x) (omega arith)
  form-count g f l (inside h i j x q) = rw (q, inside_one s g h i, inside_one e g j x) (omega arith)

  set-count : (f : List BookingSegment) → length (set_of s e w f) ≡ length f + (cuts_of s f + cuts_of e f)
  unfolding set_of cuts_of
  set-count [] = refl
  set-count (g ∷ f) = omega (arith, form-count g (set_of s e w f) _ (form s e w g), set-count f)

  -- at most two segments come in
  pub set-two : (lo hi : ℕ) (f : List BookingSegment) → cover_ok lo hi f ≡ true → length (set_of s e w f) ≤ length f + 2
  set-two lo hi f c =
      let q = cover-of lo hi f c in omega (arith, set-count f, cuts-one s f lo hi q, cuts-one e f lo hi q)
