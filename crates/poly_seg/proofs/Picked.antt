-- The offer over any capacity to a date: segment by segment, and what is known of the segment that makes it.
use Rattle.std.specs.Prelude.{Option, Some, None}
use Prim.Native.Nat.{ℕ, ◌+◌, ◌<◌, ◌≤◌, max}
use mathlib.Core.Bool.{Bool, true, false}
use mathlib.Core.Path.{◌≡◌, refl, ap, ◌∙◌}
use mathlib.Core.List.{List, [], ◌∷◌}
use native.Mathlib.Omega.{arith}
use lib.Dec.{ltb}
use lib.ListN.{length, drop, drop_of_length-le}
use lib.IntN.{ℤ}
use borrow.Author.Tests.{lt-ltb, le-ltb}
use Rattle.units.specs.declared.Date.{Date}
use Rattle.units.specs.declared.Interval.{Interval}
use Rattle.units.specs.Logic.{pick}
use Rattle.units.specs.Answer.{interval}
use Rattle.segmentation.specs.declared.VolumeSegment.{VolumeSegment}
use Rattle.free_list.specs.declared.Fit.{Fit}
use Rattle.free_list.specs.Offer.{fit_at, up, or_else}
use Rattle.free_list.proofs.Offered.{AtPlace, fit-place, fit-send, no-send, up_at}
use Rattle.poly.specs.Search.{find_end}
use Rattle.poly_seg.specs.DryRun.{end_in, offer_of}

-- A segment's turn.
module _ (cap : ℕ → ℤ) (g : VolumeSegment) (t v : ℕ) where
  pub end-early : g.end.0 < t → end_in cap g t v ≡ None
  end-early h = rw (lt-ltb _ _ h)

  pub end-late : t ≤ g.end.0 → end_in cap g t v ≡ find_end cap g.start.0 g.end.0 (max g.start.0 t) v
  end-late h = rw (le-ltb _ _ h)

-- an offer whose place is counted from i
abbrev from_of : ℕ → Option Fit → Option Fit
from_of i (Some x) = fit_at (i + x.place) x.send
from_of i None = None

from_zero : (o : Option Fit) → from_of 0 o ≡ o
from_zero (Some x) = ap (λ (k : ℕ). fit_at k x.send) (omega arith)
from_zero None = refl

from_up : (i : ℕ) (o : Option Fit) → from_of i (up o) ≡ from_of (i + 1) o
from_up i (Some x) = ap (λ (k : ℕ). fit_at k x.send) (omega arith)
from_up i None = refl

-- the search from place i on
unfoldable pub loop_of : (ℕ → ℤ) → ℕ → ℕ → ℕ → List VolumeSegment → Option Fit
loop_of cap t v i f = from_of i (offer_of cap f t v)

module _ (cap : ℕ → ℤ) (t v : ℕ) where
  pub loop-first : (f : List VolumeSegment) → loop_of cap t v 0 f ≡ offer_of cap f t v
  unfolding loop_of
  loop-first f = from_zero (offer_of cap f t v)

  pub loop-none : (i : ℕ) → loop_of cap t v i [] ≡ None
  unfolding loop_of offer_of
  loop-none i = refl

  module _ (i : ℕ) (g : VolumeSegment) (f : List VolumeSegment) where
    pub loop-found : (e : Date) → end_in cap g t v ≡ Some e → loop_of cap t v i (g ∷ f) ≡ fit_at i (interval (max g.start.0 t) e.0)
    unfolding loop_of offer_of
    loop-found e h = rw h (ap (λ (k : ℕ). fit_at k (interval (max g.start.0 t) e.0)) (omega arith))

    pub loop-on : end_in cap g t v ≡ None → loop_of cap t v i (g ∷ f) ≡ loop_of cap t v (i + 1) f
    unfolding loop_of offer_of
    loop-on h = rw h (from_up i (offer_of cap f t v))

-- A loop over the list that stands at a place: what is left has the offer that is asked, at that place on.
module _ (cap : ℕ → ℤ) (t v : ℕ) (f : List VolumeSegment) (i : ℕ) (q : loop_of cap t v 0 f ≡ loop_of cap t v i (drop i f)) where
  pub search-none : length f ≤ i → loop_of cap t v 0 f ≡ None
  search-none h = q ∙ ap (loop_of cap t v i) (drop_of_length-le f h) ∙ loop-none cap t v i

  module _ (g : VolumeSegment) (here : drop i f ≡ g ∷ drop (i + 1) f) where
    pub search-found : (e : Date) → end_in cap g t v ≡ Some e → loop_of cap t v 0 f ≡ fit_at i (interval (max g.start.0 t) e.0)
    search-found e h = q ∙ ap (loop_of cap t v i) here ∙ loop-found cap t v i g (drop (i + 1) f) e h

    pub search-on : end_in cap g t v ≡ None → loop_of cap t v 0 f ≡ loop_of cap t v (i + 1) (drop (i + 1) f)
    search-on h = q ∙ ap (loop_of cap t v i) here ∙ loop-on cap t v i g (drop (i + 1) f) h

-- a segment is picked: the send starts at the later of its start and the asked time, and the search has this end
pub record Picked (cap : ℕ → ℤ) (t v : ℕ) (send : Interval) (g : VolumeSegment) : Type 0 where
  pub start : send.start.0 ≡ max g.start.0 t
  pub ends : find_end cap g.start.0 g.end.0 send.start.0 v ≡ Some send.end

module _ (cap : ℕ → ℤ) (t v : ℕ) (send : Interval) where
  try-go : (g : VolumeSegment) (f : List VolumeSegment) (i : ℕ) (o : Option Fit) (c : Bool) (x : Option Date)
      → find_end cap g.start.0 g.end.0 (max g.start.0 t) v ≡ x
      → or_else (pick c None x) (max g.start.0 t) o ≡ fit_at i send
      → (o ≡ fit_at i send → AtPlace (Picked cap t v send) (g ∷ f) i) → AtPlace (Picked cap t v send) (g ∷ f) i
  unfolding AtPlace
  try-go g f i o true x q h k = k h
  try-go g f i o false (Some x) q h k =
      let e0 : 0 ≡ i = fit-place _ _ _ _ h in
      let e1 : interval (max g.start.0 t) x.0 ≡ send = fit-send _ _ _ _ h in
      rw (← e0, ← e1) (record { start = refl; ends = q })
  try-go g f i o false None q h k = k h

  pub offer-picked : (f : List VolumeSegment) (i : ℕ) → offer_of cap f t v ≡ fit_at i send → AtPlace (Picked cap t v send) f i
  unfolding offer_of
  offer-picked [] i h = absurd (no-send h)
  offer-picked (g ∷ f) i h =
      try-go g f i (up (offer_of cap f t v)) (ltb g.end.0 t) (find_end cap g.start.0 g.end.0 (max g.start.0 t) v) refl h
      (λ k. up_at (Picked cap t v send) send g f i (offer_of cap f t v) k (λ j z. offer-picked f j z))
