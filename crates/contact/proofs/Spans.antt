-- Laws of `spans`, for any segments: turn by turn, and what it tells of each segment.
use Prim.Native.Nat.{ℕ, ◌+◌, ◌<◌, ◌≤◌}
use mathlib.Core.Bool.{Bool, true, false}
use mathlib.Core.Path.{◌≡◌, refl, sym, ap, ◌∙◌}
use mathlib.Core.List.{List, [], ◌∷◌, map}
use native.Mathlib.Omega.{arith}
use mathlib.Core.Logic.{◌⊎◌}
use lib.Dec.{eqb, ltb}
use lib.ListN.{length, take, drop, get_or, drop_of_length-le}
use borrow.Author.Tests.{eqb-true, ltb-true, eq-eqb, lt-ltb}
use Rattle.units.specs.Limits.{segments_max}
use Rattle.units.specs.declared.Interval.{Interval}
use Rattle.units.specs.Logic.{both}
use Rattle.units.proofs.Logic.{both_go, both-stop, both-fst, both-snd}
use Rattle.units.proofs.Choice.{both-assoc}
use Rattle.units.proofs.Counted.{counted_is, counted-some, counted-most, counted-holds}
use Rattle.units.proofs.Loop.{item_here}
use Rattle.contact.specs.Segments.{spans, covers}
use Rattle.contact.proofs.Told.{not-counted}

-- the segment is not empty, and inside [a, b)
pub record Inside (a b : ℕ) (w : Interval) : Type 0 where
  pub from : a ≤ w.start.0
  pub some : w.start.0 < w.end.0
  pub to : w.end.0 ≤ b

module _ {A : Type 0} (span : A → Interval) (b : ℕ) where
  pub spans-end : (a : ℕ) → spans span a b [] ≡ eqb a b
  unfolding spans
  spans-end a = refl

  -- the segment begins at the date and is not empty, and the others follow it
  abbrev pub follows : A → ℕ → Bool
  follows s a = both (eqb (span s).start.0 a) (ltb (span s).start.0 (span s).end.0)

  spans-more : (s : A) (l : List A) (a : ℕ) → spans span a b (s ∷ l) ≡ both (follows s a) (spans span (span s).end.0 b l)
  unfolding spans
  spans-more s l a = sym (both-assoc _ _ _)

  -- a `for` over the segments: from the date reached on, those left answer as all
  module _ (l : List A) (first at i : ℕ) (q : spans span first b l ≡ spans span at b (drop i l)) where
    pub left-end : length l ≤ i → spans span first b l ≡ eqb at b
    left-end h = q ∙ ap (spans span at b) (drop_of_length-le l h) ∙ spans-end at

    module _ (s : A) (lt : i < length l) (e : s ≡ get_or l i s) where
      here : spans span first b l ≡ both (follows s at) (spans span (span s).end.0 b (drop (i + 1) l))
      here = q ∙ ap (spans span at b) (item_here l i s lt e) ∙ spans-more s _ at

      pub left-stop : follows s at ≡ false → spans span first b l ≡ false
      left-stop h = here ∙ both-stop _ _ h

      pub left-on : follows s at ≡ true → spans span first b l ≡ spans span (span s).end.0 b (drop (i + 1) l)
      left-on h = here ∙ both_go _ _ h

  module _ (s : A) (l : List A) (a : ℕ) where
    pub spans-go : (span s).start.0 ≡ a → (span s).start.0 < (span s).end.0 → spans span a b (s ∷ l) ≡ spans span (span s).end.0 b l
    unfolding spans
    spans-go h k = both_go _ _ (eq-eqb _ _ h) ∙ both_go _ _ (lt-ltb _ _ k)

    module _ (e : spans span a b (s ∷ l) ≡ true) where
      pub spans-start : (span s).start.0 ≡ a
      unfolding spans
      spans-start = eqb-true _ _ (both-fst _ _ e)

      pub spans-some : (span s).start.0 < (span s).end.0
      unfolding spans
      spans-some = ltb-true _ _ (both-fst _ _ (both-snd _ _ e))

      pub spans-rest : spans span (span s).end.0 b l ≡ true
      unfolding spans
      spans-rest = both-snd _ _ (both-snd _ _ e)

  -- the end is not before the start
  pub spans-forth : (l : List A) (a : ℕ) → spans span a b l ≡ true → a ≤ b
  spans-forth [] a e = omega (arith, eqb-true a b (sym (spans-end a) ∙ e))
  spans-forth (s ∷ l) a e =
      omega (arith, spans-start s l a e, spans-some s l a e, spans-forth l _ (spans-rest s l a e))

  -- the first segment, and so each, is inside
  pub spans-inside : (s : A) (l : List A) (a : ℕ) → spans span a b (s ∷ l) ≡ true → Inside a b (span s)
  spans-inside s l a e =
      record {
        from = omega (arith, spans-start s l a e);
        some = spans-some s l a e;
        to = spans-forth l _ (spans-rest s l a e);
      }

-- what is told of segments that cover a window
module _ {A : Type 0} (span : A → Interval) (w : Interval) (n : ℕ) (l : List A) (e : covers span w n l ≡ true) where
  pub covers-some : 1 ≤ n
  unfolding covers
  covers-some = counted-some segments_max n _ e

  pub covers-most : n ≤ segments_max
  unfolding covers
  covers-most = counted-most segments_max n _ e

  pub covers-spans : spans span w.start.0 w.end.0 (take n l) ≡ true
  unfolding covers
  covers-spans = counted-holds segments_max n _ e

-- the count is not 1 to 16, or it is
module _ {A : Type 0} (span : A → Interval) (w : Interval) (n : ℕ) (l : List A) where
  pub covers-no : (n < 1) ⊎ (segments_max < n) → covers span w n l ≡ false
  unfolding covers
  covers-no h = not-counted n _ h

  pub covers-is : 1 ≤ n → n ≤ segments_max → covers span w n l ≡ spans span w.start.0 w.end.0 (take n l)
  unfolding covers
  covers-is h k = counted_is segments_max n _ h k

-- segments with the same spans
pub spans-map : {A B : Type 0} (f : A → B) (span : B → Interval) (a b : ℕ) (l : List A)
    → spans span a b (map f l) ≡ spans (λ (x : A). span (f x)) a b l
unfolding spans
spans-map f span a b [] = refl
spans-map f span a b (s ∷ l) = rw (spans-map f span (span (f s)).end.0 b l)
