-- On a list that keeps its rules the offer is what one loop finds: the asked time is past no further start.
use Rattle.std.specs.Prelude.{Option, Some, None}
use Prim.Native.Nat.{ℕ, suc, ◌+◌, ◌<◌, ◌≤◌, max}
use mathlib.Core.Path.{◌≡◌, refl, ap, ◌∙◌}
use mathlib.Core.List.{List, [], ◌∷◌}
use mathlib.Core.Logic.{⊎_elim}
use native.Mathlib.Omega.{arith}
use lib.ListN.{length, drop, drop_of_length-le}
use borrow.Author.Tests.{lt-ltb, le-ltb, le-leb, lt-leb}
use Rattle.units.specs.declared.Date.{Date}
use Rattle.units.specs.Answer.{interval}
use Rattle.units.proofs.Numbers.{le-or-lt}
use Rattle.segmentation.specs.declared.VolumeSegment.{VolumeSegment}
use Rattle.free_list.specs.declared.Fit.{Fit}
use Rattle.free_list.specs.Offer.{Rule, fit_at, up, or_else, end_from, further_of, offer_of}
use Rattle.free_list.specs.Granted.{end_in}
use Rattle.free_list.proofs.ListedLaws.{Listed}

abbrev or_else_at : Option Date → ℕ → ℕ → Option Fit → Option Fit
or_else_at (Some e) i s o = fit_at i (interval s e.0)
or_else_at None i s o = o

-- the place is counted from i; every segment is asked at the later of its start and the asked time
unfoldable pub loop_of : Rule → ℕ → ℕ → ℕ → List VolumeSegment → Option Fit
loop_of E t v i [] = None
loop_of E t v i (g ∷ f) = or_else_at (end_in E g t v) i (max g.start.0 t) (loop_of E t v (i + 1) f)

-- an offer whose place is counted from i
abbrev from_of : ℕ → Option Fit → Option Fit
from_of i (Some x) = fit_at (i + x.place) x.send
from_of i None = None

from_up : (i : ℕ) (o : Option Fit) → from_of (i + 1) o ≡ from_of i (up o)
from_up i (Some x) = ap (λ (k : ℕ). fit_at k x.send) (omega arith)
from_up i None = refl

from_zero : (o : Option Fit) → from_of 0 o ≡ o
from_zero (Some x) = ap (λ (k : ℕ). fit_at k x.send) (omega arith)
from_zero None = refl

from-else : (i s : ℕ) (x : Option Date) (o p : Option Fit) → p ≡ from_of i o → or_else_at x i s p ≡ from_of i (or_else x s o)
from-else i s (Some e) o p h = ap (λ (k : ℕ). fit_at k (interval s e.0)) (omega arith)
from-else i s None o p h = h

module _ (E : Rule) (t v i : ℕ) (g : VolumeSegment) (f : List VolumeSegment) where
  pub loop-found : (e : Date) → end_in E g t v ≡ Some e → loop_of E t v i (g ∷ f) ≡ fit_at i (interval (max g.start.0 t) e.0)
  unfolding loop_of
  loop-found e h = rw h

  pub loop-on : end_in E g t v ≡ None → loop_of E t v i (g ∷ f) ≡ loop_of E t v (i + 1) f
  unfolding loop_of
  loop-on h = rw h

pub loop-none : (E : Rule) (t v i : ℕ) → loop_of E t v i [] ≡ None
unfolding loop_of
loop-none E t v i = refl

module _ (E : Rule) (g : VolumeSegment) (t v : ℕ) where
  pub end-early : g.end.0 < t → end_in E g t v ≡ None
  end-early h = rw (lt-ltb _ _ h)

  module _ (h : t ≤ g.end.0) where
    pub end-late : end_in E g t v ≡ end_from E g (max g.start.0 t) v
    end-late = rw (le-ltb _ _ h)

    pub end-small : g.volume.0 < v → end_in E g t v ≡ None
    end-small k = end-late ∙ rw (lt-leb _ _ k)

    pub end-asked : v ≤ g.volume.0 → end_in E g t v ≡ E (max g.start.0 t) v g.end.0
    end-asked k = end-late ∙ rw (le-leb _ _ k)

module _ (E : Rule) (l : List VolumeSegment) (hi t v : ℕ) where
  further-loop : (f : List VolumeSegment) (n i : ℕ) → Listed l n hi f → t ≤ n → loop_of E t v i f ≡ from_of i (further_of E f v)
  unfolding Listed loop_of further_of
  further-loop [] n i q h = refl
  further-loop (g ∷ f) n i q h =
      let late : t ≤ g.end.0 = omega (arith, q.0, q.1) in
      let own : max g.start.0 t ≡ g.start.0 = omega (arith, q.0) in
      rw (end-late E g t v late, own)
      (from-else i g.start.0 (end_from E g g.start.0 v) (up (further_of E f v)) (loop_of E t v (i + 1) f)
      (further-loop f (suc g.end.0) (i + 1) q.4 (omega arith) ∙ from_up i (further_of E f v)))

  offer-loop : (f : List VolumeSegment) (n i : ℕ) → Listed l n hi f → loop_of E t v i f ≡ from_of i (offer_of E f t v)
  unfolding Listed loop_of offer_of
  offer-loop [] n i q = refl
  offer-loop (g ∷ f) n i q =
      ⊎_elim
      (λ (late : t ≤ g.end.0).
      rw (le-ltb g.end.0 t late)
      (from-else i (max g.start.0 t) (end_from E g (max g.start.0 t) v) (up (further_of E f v)) (loop_of E t v (i + 1) f)
      (further-loop f (suc g.end.0) (i + 1) q.4 (omega arith) ∙ from_up i (further_of E f v))))
      (λ (early : g.end.0 < t).
      rw (lt-ltb g.end.0 t early) (offer-loop f (suc g.end.0) (i + 1) q.4 ∙ from_up i (offer_of E f t v)))
      (le-or-lt t g.end.0)

  -- the loop from the first place on
  pub offer-is-loop : (f : List VolumeSegment) (n : ℕ) → Listed l n hi f → loop_of E t v 0 f ≡ offer_of E f t v
  offer-is-loop f n q = offer-loop f n 0 q ∙ from_zero (offer_of E f t v)

-- A loop over the list that stands at a place: what is left has the offer that is asked, at that place on.
module _ (E : Rule) (t v : ℕ) (f : List VolumeSegment) (i : ℕ) (q : loop_of E t v 0 f ≡ loop_of E t v i (drop i f)) where
  pub search-none : length f ≤ i → loop_of E t v 0 f ≡ None
  search-none h = q ∙ ap (loop_of E t v i) (drop_of_length-le f h) ∙ loop-none E t v i

  module _ (g : VolumeSegment) (here : drop i f ≡ g ∷ drop (i + 1) f) where
    pub search-found : (e : Date) → end_in E g t v ≡ Some e → loop_of E t v 0 f ≡ fit_at i (interval (max g.start.0 t) e.0)
    search-found e h = q ∙ ap (loop_of E t v i) here ∙ loop-found E t v i g (drop (i + 1) f) e h

    pub search-on : end_in E g t v ≡ None → loop_of E t v 0 f ≡ loop_of E t v (i + 1) (drop (i + 1) f)
    search-on h = q ∙ ap (loop_of E t v i) here ∙ loop-on E t v i g (drop (i + 1) f) h
