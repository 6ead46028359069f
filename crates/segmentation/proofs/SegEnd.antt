-- The end found segment by segment, as the code does it.
use Rattle.std.specs.Prelude.{Option, None}
use Rattle.units.specs.declared.Date.{Date}
use Prim.Native.Nat.{ℕ, ◌+◌, ◌-◌, ◌*◌, ◌<◌, ◌≤◌}
use mathlib.Core.Path.{◌≡◌, refl}
use mathlib.Core.List.{List, [], ◌∷◌}
use lib.Dec.{leb}
use borrow.Author.Tests.{le-leb, lt-leb}
use Rattle.units.specs.Logic.{pick}
use Rattle.segmentation.specs.declared.VolumeSegment.{VolumeSegment}
use Rattle.segmentation.specs.Granted.{ticks_of}
use Rattle.segmentation.specs.Capacity.{rate_of}
use Rattle.segmentation.specs.End.{by_deadline}

-- what the segment still carries from a on
abbrev pub carried_of : VolumeSegment → ℕ → ℕ
carried_of s a = rate_of s * (s.end.0 - a)

unfoldable pub seg_end : ℕ → List VolumeSegment → ℕ → ℕ → ℕ → (Option Date)
seg_end k [] a v d = None
seg_end k (s ∷ l) a v d =
    pick (leb a s.end.0)
    (pick (leb v (carried_of s a)) (by_deadline d (a + ticks_of k v (rate_of s))) (seg_end k l s.end.0 (v - carried_of s a) d))
    (seg_end k l a v d)

pub seg-none : (k a v d : ℕ) → seg_end k [] a v d ≡ None
unfolding seg_end
seg-none k a v d = refl

module _ (k : ℕ) (s : VolumeSegment) (l : List VolumeSegment) (a v d : ℕ) where
  pub seg_skip : s.end.0 < a → seg_end k (s ∷ l) a v d ≡ seg_end k l a v d
  unfolding seg_end
  seg_skip h = simp (lt-leb _ _ h)

  pub seg-here : a ≤ s.end.0 → v ≤ carried_of s a → seg_end k (s ∷ l) a v d ≡ by_deadline d (a + ticks_of k v (rate_of s))
  unfolding seg_end
  seg-here h w = simp (le-leb _ _ h, le-leb _ _ w)

  pub seg-on : a ≤ s.end.0 → carried_of s a < v → seg_end k (s ∷ l) a v d ≡ seg_end k l s.end.0 (v - carried_of s a) d
  unfolding seg_end
  seg-on h w = simp (le-leb _ _ h, lt-leb _ _ w)
