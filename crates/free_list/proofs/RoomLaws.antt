-- The room of a list: part by part, and what a valid list bounds it by.
use Prim.Native.Nat.{ℕ, zero, suc, ◌+◌, ◌-◌, ◌<◌, ◌≤◌}
use mathlib.Core.Path.{◌≡◌, refl}
use mathlib.Core.List.{List, [], ◌∷◌, ◌++◌}
use mathlib.Core.Logic.{⊎_elim}
use native.Mathlib.Omega.{arith}
use lib.ListN.{length, get_or}
use Rattle.units.proofs.Numbers.{le-or-lt}
use Rattle.segmentation.specs.declared.VolumeSegment.{VolumeSegment}
use Rattle.segmentation.specs.Capacity.{capacity}
use Rattle.segmentation.proofs.Capacity.{capacity-split, capacity-none, cap-none}
use Rattle.free_list.specs.Room.{room_of, listed_capacity}
use Rattle.free_list.proofs.ListedLaws.{Listed}

pub room-none : room_of [] ≡ 0
unfolding room_of
room-none = refl

pub room_cons : (g : VolumeSegment) (f : List VolumeSegment) → room_of (g ∷ f) ≡ g.volume.0 + room_of f
unfolding room_of
room_cons g f = refl

pub room-one : (g : VolumeSegment) → room_of (g ∷ []) ≡ g.volume.0
unfolding room_of
room-one g = omega arith

pub room-two : (g h : VolumeSegment) → room_of (g ∷ (h ∷ [])) ≡ g.volume.0 + h.volume.0
unfolding room_of
room-two g h = omega arith

pub room-append : (f h : List VolumeSegment) → room_of (f ++ h) ≡ room_of f + room_of h
unfolding room_of
room-append [] h = omega arith
room-append (g ∷ f) h = omega (arith, room-append f h)

-- a listed volume is part of the room
pub room_at : (f : List VolumeSegment) (i : ℕ) (z : VolumeSegment) → i < length f → (get_or f i z).volume.0 ≤ room_of f
unfolding room_of
room_at [] i z h = absurd (omega arith)
room_at (g ∷ f) zero z h = omega arith
room_at (g ∷ f) (suc i) z h = omega (arith, room_at f i z (omega arith))

module _ (l : List VolumeSegment) (hi : ℕ) where
  -- the room is at most the exact capacity of the listed time
  pub room-listed : (n : ℕ) (f : List VolumeSegment) → Listed l n hi f → room_of f ≤ listed_capacity l f
  unfolding Listed room_of listed_capacity
  room-listed n [] q = omega arith
  room-listed n (g ∷ f) q = omega (arith, q.3, room-listed (suc g.end.0) f q.4)

  -- and that is at most the exact capacity of the window
  pub listed-window : (n : ℕ) (f : List VolumeSegment) → Listed l n hi f → listed_capacity l f ≤ capacity l n hi
  unfolding Listed listed_capacity
  listed-window n [] q = omega arith
  listed-window n (g ∷ f) q =
      let a = g.start.0 in
      let b = g.end.0 in
      let h1 : n ≤ a = q.0 in
      let h2 : a ≤ b = q.1 in
      let h3 : b ≤ hi = q.2 in
      let rest : capacity l (suc b) hi ≤ capacity l b hi =
      ⊎_elim
      (λ (k : suc b ≤ hi). let c = capacity-split l b (suc b) hi (omega arith) k in omega (arith, c))
      (λ (k : hi < suc b). let c : capacity l (suc b) hi ≡ 0 = capacity-none l (suc b) hi (omega arith) in omega (arith, c))
      (le-or-lt (suc b) hi) in
      omega (arith, rest, listed-window (suc b) f q.4, capacity-split l n a hi h1 (omega arith), capacity-split l a b hi h2 h3)

-- a list without rates has no room
bare-capacity : (f : List VolumeSegment) → listed_capacity [] f ≡ 0
unfolding listed_capacity
bare-capacity [] = refl
bare-capacity (g ∷ f) = omega (arith, cap-none g.start.0 (g.end.0 - g.start.0), bare-capacity f)

pub bare-room : (n hi : ℕ) (f : List VolumeSegment) → Listed [] n hi f → 0 ≡ room_of f
bare-room n hi f q = omega (arith, room-listed [] hi n f q, bare-capacity f)
