-- A search that goes from segment to segment and stops at the first end finds the first segment that has one; so does the free-volume manager's offer.
use Rattle.std.specs.Prelude.{Option, Some, None}
use Prim.Native.Nat.{ℕ, zero, suc, ◌<◌, ◌≤◌, max}
use mathlib.Core.Path.{◌≡◌, refl, ap, ◌∙◌, subst}
use mathlib.Core.List.{List, [], ◌∷◌}
use mathlib.Core.Logic.{⊎_elim}
use native.Mathlib.Omega.{arith}
use lib.ListN.{length, get_or}
use borrow.Author.Tests.{lt-ltb, le-ltb}
use Rattle.units.specs.declared.Date.{Date}
use Rattle.units.specs.Answer.{interval}
use Rattle.units.proofs.Numbers.{le-or-lt}
use Rattle.segmentation.specs.declared.VolumeSegment.{VolumeSegment}
use Rattle.contact.specs.Segments.{zero_volume}
use Rattle.free_list.specs.declared.Fit.{Fit}
use Rattle.free_list.specs.Offer.{Rule, fit_at, up, or_else, end_from, further_of, offer_of}
use Rattle.free_list.specs.Granted.{end_in}
use Rattle.free_list.specs.First.{OfferIs, first, none}
use Rattle.free_list.proofs.ListedLaws.{Listed}
use Rattle.free_list.proofs.OneLoop.{end-early, end-late}

module _ (end-in : VolumeSegment → Option Date) (t : ℕ) where
  -- the segment is the first
  here : (g : VolumeSegment) (f : List VolumeSegment) (e : Date) (r : Option Fit) → end-in g ≡ Some e → r ≡ fit_at 0 (interval (max g.start.0 t) e.0) → OfferIs end-in t (g ∷ f) r
  here g f e r q is = first 0 (interval (max g.start.0 t) e.0) (record { place = omega arith; start = refl; end = q; before = λ j lt. absurd (omega arith) }) is

  -- it has no end, and what is first in the rest is one place further on
  on : (g : VolumeSegment) (f : List VolumeSegment) (r s : Option Fit) → end-in g ≡ None → s ≡ up r → OfferIs end-in t f r → OfferIs end-in t (g ∷ f) s
  on g f r s q is (first i send a e) =
      first (suc i) send
      (record { place = omega (arith, a.place); start = a.start; end = a.end; before = λ j lt. earlier j lt })
      (is ∙ ap up e)
    where
      earlier : (j : ℕ) → j < suc i → end-in (get_or (g ∷ f) j zero_volume) ≡ None
      earlier zero lt = q
      earlier (suc j) lt = a.before j (omega arith)
  on g f r s q is (none h e) = none every (is ∙ ap up e)
    where
      every : (j : ℕ) → j < length (g ∷ f) → end-in (get_or (g ∷ f) j zero_volume) ≡ None
      every zero lt = q
      every (suc j) lt = h j (omega arith)

  -- one segment's turn
  pub turn_is : (g : VolumeSegment) (f : List VolumeSegment) (r : Option Fit) → OfferIs end-in t f r → OfferIs end-in t (g ∷ f) (or_else (end-in g) (max g.start.0 t) (up r))
  turn_is g f r q = turn (end-in g) refl
    where
      turn : (x : Option Date) → end-in g ≡ x → OfferIs end-in t (g ∷ f) (or_else x (max g.start.0 t) (up r))
      turn (Some e) h = here g f e _ h refl
      turn None h = on g f r _ h refl q

  pub nothing_is : OfferIs end-in t [] None
  nothing_is = none (λ j lt. absurd (omega arith)) refl

-- with the same end of the segment
same_end : (end-in : VolumeSegment → Option Date) (t : ℕ) (f : List VolumeSegment) (s : ℕ) (r : Option Fit) {x y : Option Date} → x ≡ y → OfferIs end-in t f (or_else x s r) → OfferIs end-in t f (or_else y s r)
same_end end-in t f s r e q = subst (λ (x : Option Date). OfferIs end-in t f (or_else x s r)) e q

-- the offer on a list that keeps its rules
module _ (E : Rule) (l : List VolumeSegment) (hi t v : ℕ) where
  abbrev end-in : VolumeSegment → Option Date
  end-in g = end_in E g t v

  further-first : (f : List VolumeSegment) (n : ℕ) → Listed l n hi f → t ≤ n → OfferIs end-in t f (further_of E f v)
  unfolding Listed further_of
  further-first [] n q h = nothing_is end-in t
  further-first (g ∷ f) n q h =
      let own : max g.start.0 t ≡ g.start.0 = omega (arith, q.0) in
      let rest = further-first f (suc g.end.0) q.4 (omega (arith, q.0, q.1)) in
      let at-start : end_in E g t v ≡ end_from E g g.start.0 v = end-late E g t v (omega (arith, q.0, q.1)) ∙ ap (λ (s : ℕ). end_from E g s v) own in
      same_end end-in t (g ∷ f) g.start.0 (up (further_of E f v)) at-start (subst (λ (s : ℕ). OfferIs end-in t (g ∷ f) (or_else (end_in E g t v) s (up (further_of E f v)))) own (turn_is end-in t g f (further_of E f v) rest))

  pub offer-first : (f : List VolumeSegment) (n : ℕ) → Listed l n hi f → OfferIs (λ g. end_in E g t v) t f (offer_of E f t v)
  unfolding Listed offer_of
  offer-first [] n q = nothing_is end-in t
  offer-first (g ∷ f) n q =
      ⊎_elim
      (λ (late : t ≤ g.end.0).
      let rest = further-first f (suc g.end.0) q.4 (omega arith) in
      rw (le-ltb g.end.0 t late) (turned late (turn_is end-in t g f (further_of E f v) rest)))
      (λ (early : g.end.0 < t). rw (lt-ltb g.end.0 t early) (on end-in t g f (offer_of E f t v) _ (end-early E g t v early) refl (offer-first f (suc g.end.0) q.4)))
      (le-or-lt t g.end.0)
    where
      turned : t ≤ g.end.0 → OfferIs end-in t (g ∷ f) (or_else (end_in E g t v) (max g.start.0 t) (up (further_of E f v)))
          → OfferIs end-in t (g ∷ f) (or_else (end_from E g (max g.start.0 t) v) (max g.start.0 t) (up (further_of E f v)))
      turned late x = same_end end-in t (g ∷ f) (max g.start.0 t) (up (further_of E f v)) (end-late E g t v late) x
