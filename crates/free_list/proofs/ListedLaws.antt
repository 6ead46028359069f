-- The test of a free list, test by test, and what a list that passes it keeps.
use Prim.Native.Nat.{ℕ, zero, suc, ◌+◌, ◌<◌, ◌≤◌}
use mathlib.Core.Bool.{true, false}
use mathlib.Core.Path.{◌≡◌, refl, ◌∙◌}
use mathlib.Core.List.{List, [], ◌∷◌}
use native.Mathlib.Numerals.{add-one}
use native.Mathlib.Omega.{arith}
use lib.Dec.{leb}
use lib.ListN.{length, get_or}
use borrow.Author.Tests.{le-leb, lt-leb, leb-true}
use Rattle.units.proofs.Logic.{both_go, both-stop, both-fst, both-snd}
use Rattle.segmentation.specs.declared.VolumeSegment.{VolumeSegment}
use Rattle.segmentation.specs.Capacity.{capacity}
use Rattle.free_list.specs.Listed.{segment_ok, list_ok}

-- in the window from n on, each segment forward, each end before the next start, each volume within the capacity
unfoldable pub Listed : List VolumeSegment → ℕ → ℕ → List VolumeSegment → Type 0
Listed l n hi [] = Unit
Listed l n hi (g ∷ f) =
    (n ≤ g.start.0)
    × (g.start.0 ≤ g.end.0)
    × (g.end.0 ≤ hi)
    × (g.volume.0 ≤ capacity l g.start.0 g.end.0)
    × (Listed l (suc g.end.0) hi f)

module _ (l : List VolumeSegment) (low hi : ℕ) (g : VolumeSegment) where
  pub segment-early : g.start.0 < low → segment_ok l low hi g ≡ false
  unfolding segment_ok
  segment-early h = both-stop _ _ (lt-leb _ _ h)

  module _ (h : low ≤ g.start.0) where
    pub segment-back : g.end.0 < g.start.0 → segment_ok l low hi g ≡ false
    unfolding segment_ok
    segment-back k = both_go _ _ (le-leb _ _ h) ∙ both-stop _ _ (lt-leb _ _ k)

    module _ (k : g.start.0 ≤ g.end.0) where
      pub segment-late : hi < g.end.0 → segment_ok l low hi g ≡ false
      unfolding segment_ok
      segment-late m = both_go _ _ (le-leb _ _ h) ∙ both_go _ _ (le-leb _ _ k) ∙ both-stop _ _ (lt-leb _ _ m)

      pub segment-is : g.end.0 ≤ hi → segment_ok l low hi g ≡ leb g.volume.0 (capacity l g.start.0 g.end.0)
      unfolding segment_ok
      segment-is m = both_go _ _ (le-leb _ _ h) ∙ both_go _ _ (le-leb _ _ k) ∙ both_go _ _ (le-leb _ _ m)

  module _ (f : List VolumeSegment) where
    pub list-stop : segment_ok l low hi g ≡ false → list_ok l low hi (g ∷ f) ≡ false
    unfolding list_ok
    list-stop e = both-stop _ _ e

    pub list-go : segment_ok l low hi g ≡ true → list_ok l low hi (g ∷ f) ≡ list_ok l (g.end.0 + 1) hi f
    unfolding list_ok
    list-go e = both_go _ _ e

pub list-none : (l : List VolumeSegment) (low hi : ℕ) → list_ok l low hi [] ≡ true
unfolding list_ok
list-none l low hi = refl

pub true-listed : (l : List VolumeSegment) (n hi : ℕ) (f : List VolumeSegment) → Listed l n hi f → list_ok l n hi f ≡ true
unfolding Listed
true-listed l n hi [] q = list-none l n hi
true-listed l n hi (g ∷ f) q =
    list-go l n hi g f (segment-is l n hi g q.0 q.1 q.2 ∙ le-leb _ _ q.3)
    ∙ true-listed l (g.end.0 + 1) hi f (rw (← add-one) at q.4)

pub listed-true : (l : List VolumeSegment) (n hi : ℕ) (f : List VolumeSegment) → list_ok l n hi f ≡ true → Listed l n hi f
unfolding Listed list_ok segment_ok
listed-true l n hi [] e = tt
listed-true l n hi (g ∷ f) e =
    let h = both-fst _ _ e in
    let h1 = both-snd _ _ h in
    let h2 = both-snd _ _ h1 in (
      leb-true _ _ (both-fst _ _ h),
      leb-true _ _ (both-fst _ _ h1),
      leb-true _ _ (both-fst _ _ h2),
      leb-true _ _ (both-snd _ _ h2),
      rw add-one at (listed-true l (g.end.0 + 1) hi f (both-snd _ _ e)),
    )

-- the list may begin sooner
pub listed-sooner : (l : List VolumeSegment) (n m hi : ℕ) (f : List VolumeSegment) → m ≤ n → Listed l n hi f → Listed l m hi f
unfolding Listed
listed-sooner l n m hi [] h q = tt
listed-sooner l n m hi (g ∷ f) h q = (omega (arith, q.0), q.1, q.2, q.3, q.4)

-- no segment starts before the window
pub listed-low : (l : List VolumeSegment) (n hi : ℕ) (f : List VolumeSegment) (i : ℕ) (z : VolumeSegment) → i < length f → Listed l n hi f
    → n ≤ (get_or f i z).start.0
unfolding Listed
listed-low l n hi [] i z h q = absurd (omega arith)
listed-low l n hi (g ∷ f) zero z h q = q.0
listed-low l n hi (g ∷ f) (suc i) z h q =
    let k = listed-low l (suc g.end.0) hi f i z (omega arith) q.4 in omega (arith, q.0, q.1)
