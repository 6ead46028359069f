-- Edition 2: a list whose volumes are exact capacities stays one through every cut, and its room is the exact capacity of the listed time.
use Prim.Native.Nat.{ℕ, zero, suc}
use mathlib.Core.Path.{◌≡◌, refl}
use mathlib.Core.List.{List, [], ◌∷◌}
use native.Mathlib.Omega.{arith}
use Rattle.segmentation.specs.declared.VolumeSegment.{VolumeSegment}
use Rattle.free_list.specs.Cut.{left_of, cut_of}
use Rattle.free_list.specs.Room.{room_of, listed_capacity, Exactly}
use Rattle.free_list.proofs.CutLaws.{left-cases}

module _ (l : List VolumeSegment) (s e v : ℕ) where
  left-exactly : (g : VolumeSegment) (f : List VolumeSegment) → Exactly l f → Exactly l (left_of 2 l g s e v f)
  unfolding Exactly
  left-exactly g f q =
      left-cases 2 l g s e v f (λ x. Exactly l x) (λ z. (refl, q)) (λ z y. (refl, q)) (λ z y. (refl, (refl, q)))

  pub cut-exactly : (f : List VolumeSegment) (i : ℕ) → Exactly l f → Exactly l (cut_of 2 l f i s e v)
  unfolding Exactly cut_of
  cut-exactly [] i q = tt
  cut-exactly (g ∷ f) zero q = left-exactly g f q.1
  cut-exactly (g ∷ f) (suc i) q = (q.0, cut-exactly f i q.1)

pub exactly-room : (l f : List VolumeSegment) → Exactly l f → room_of f ≡ listed_capacity l f
unfolding Exactly room_of listed_capacity
exactly-room l [] q = refl
exactly-room l (g ∷ f) q = omega (arith, q.0, exactly-room l f q.1)
