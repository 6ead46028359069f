-- What the test of a list tells, that facts give it back, and how it is computed turn by turn.
use Prim.Native.Nat.{ℕ, ◌+◌, ◌<◌, ◌≤◌}
use mathlib.Core.Bool.{true, false}
use mathlib.Core.Path.{◌≡◌, ap, ◌∙◌}
use mathlib.Core.List.{List, [], ◌∷◌}
use native.Mathlib.Omega.{arith}
use lib.Dec.{eqb}
use lib.ListN.{length, drop, get_or, drop_of_length-le}
use borrow.Author.Tests.{eqb-true, leb-true, eq-eqb, le-leb}
use Rattle.units.specs.Logic.{both}
use Rattle.units.proofs.Loop.{at-whole}
use Rattle.units.proofs.Logic.{both-fst, both-snd, both_go, both-stop, both_yes}
use Rattle.bookings.specs.declared.BookingSegment.{BookingSegment}
use Rattle.bookings.specs.Listed.{level_max, follows, cover_ok}
use Rattle.bookings.specs.Granted.{From}

-- from a to b without a gap, each segment forward, each level 0 to 128
unfoldable pub Cover : ℕ → ℕ → List BookingSegment → Type 0
Cover a b [] = a ≡ b
Cover a b (g ∷ f) = (g.start.0 ≡ a) × (g.start.0 ≤ g.end.0) × (g.level.0 ≤ level_max) × (Cover g.end.0 b f)

pub cover-of : (a b : ℕ) (f : List BookingSegment) → cover_ok a b f ≡ true → Cover a b f
unfolding cover_ok follows Cover
cover-of a b [] e = eqb-true _ _ e
cover-of a b (g ∷ f) e =
    let h = both-fst _ _ e in
    let k = both-snd _ _ h in
    (eqb-true _ _ (both-fst _ _ h), leb-true _ _ (both-fst _ _ k), leb-true _ _ (both-snd _ _ k), cover-of g.end.0 b f (both-snd _ _ e))

pub cover-true : (a b : ℕ) (f : List BookingSegment) → Cover a b f → cover_ok a b f ≡ true
unfolding cover_ok follows Cover
cover-true a b [] q = eq-eqb _ _ q
cover-true a b (g ∷ f) q =
    both_yes _ _ (both_yes _ _ (eq-eqb _ _ q.0) (both_yes _ _ (le-leb _ _ q.1) (le-leb _ _ q.2))) (cover-true g.end.0 b f q.3)

from-cover : (lo a b : ℕ) (f : List BookingSegment) → lo ≤ a → Cover a b f → From lo f
unfolding Cover From
from-cover lo a b [] h q = tt
from-cover lo a b (g ∷ f) h q = (omega (arith, q.0), from-cover lo g.end.0 b f (omega (arith, q.0, q.1)) q.3)

-- no segment starts before the window
pub cover-from : (lo hi : ℕ) (f : List BookingSegment) → cover_ok lo hi f ≡ true → From lo f
cover-from lo hi f e = from-cover lo lo hi f (omega arith) (cover-of lo hi f e)

-- A `for` over the segments: what is left of the list covers what is left of the window.
module _ (b a₀ : ℕ) (l : List BookingSegment) (a i : ℕ) (q : cover_ok a₀ b l ≡ cover_ok a b (drop i l)) where
  pub cover-end : length l ≤ i → cover_ok a₀ b l ≡ eqb a b
  unfolding cover_ok
  cover-end h = q ∙ ap (cover_ok a b) (drop_of_length-le l h)

  module _ (z : BookingSegment) (lt : i < length l) where
    abbrev g : BookingSegment
    g = get_or l i z

    cover-here : cover_ok a₀ b l ≡ both (follows a g) (cover_ok g.end.0 b (drop (i + 1) l))
    unfolding cover_ok
    cover-here = q ∙ ap (cover_ok a b) (at-whole l i z lt)

    pub cover-fails : follows a g ≡ false → cover_ok a₀ b l ≡ false
    cover-fails h = cover-here ∙ both-stop _ _ h

    pub cover-on : follows a g ≡ true → cover_ok a₀ b l ≡ cover_ok g.end.0 b (drop (i + 1) l)
    cover-on h = cover-here ∙ both_go _ _ h
