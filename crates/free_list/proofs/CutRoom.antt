-- What a cut does to the room: off goes what the place listed, on comes what is left of it. Nothing of the end rule is in it.
-- The exact capacity of the listed time falls by that of the send interval, or by more, but by no more where the send has a length.
use Prim.Native.Nat.{ℕ, zero, suc, ◌+◌, ◌-◌, ◌<◌, ◌≤◌, ◌^◌}
use mathlib.Core.Bool.{Bool, true, false}
use mathlib.Core.Path.{◌≡◌, refl, ap}
use mathlib.Core.List.{List, [], ◌∷◌, ◌++◌}
use mathlib.Core.Logic.{⊎_elim}
use native.Mathlib.Omega.{arith}
use lib.Dec.{eqb}
use lib.ListN.{length, get_or}
use Rattle.units.specs.Limits.{listed_max}
use Rattle.units.specs.Logic.{pick}
use Rattle.segmentation.specs.declared.VolumeSegment.{VolumeSegment}
use Rattle.segmentation.specs.Capacity.{capacity}
use Rattle.segmentation.proofs.Capacity.{capacity-split, capacity-none, cap-none}
use Rattle.contact.specs.Segments.{zero_volume}
use Rattle.free_list.specs.declared.FreeList.{FreeList}
use Rattle.free_list.specs.declared.Cut.{Cut}
use Rattle.free_list.specs.Cut.{rest_volume, rest_of, stretch_of, left_of, cut_of, listed, list_cut}
use Rattle.free_list.specs.Room.{room_of, listed_capacity}
use Rattle.free_list.specs.Granted.{Inside, Roomy, Changes}
use Rattle.free_list.proofs.ListedLaws.{Listed}
use Rattle.free_list.proofs.RoomLaws.{room-append, room_at, bare-room}
use Rattle.free_list.proofs.Offered.{AtPlace, Here, Offered}
use Rattle.free_list.proofs.CutLaws.{left-cases, rest-cases}
use Rattle.free_list.proofs.Places.{listed-length}
use Rattle.free_list.proofs.CutList.{listed_in, cut-cases}

module _ (k : ℕ) (l : List VolumeSegment) (s e v : ℕ) where
  -- what is left of a segment, on its own
  abbrev pub parts_of : VolumeSegment → List VolumeSegment
  parts_of g = left_of k l g s e v []

  left-append : (g : VolumeSegment) (f : List VolumeSegment) → left_of k l g s e v f ≡ parts_of g ++ f
  unfolding left_of
  left-append g f = pick-append (eqb g.start.0 s) (eqb s e)
    where
      pick-append : (a b : Bool) → pick a (rest_of k l g e v ∷ f) (stretch_of l g.start.0 s ∷ pick b f (stretch_of l e g.end.0 ∷ f))
          ≡ pick a (rest_of k l g e v ∷ []) (stretch_of l g.start.0 s ∷ pick b [] (stretch_of l e g.end.0 ∷ [])) ++ f
      pick-append true b = refl
      pick-append false true = refl
      pick-append false false = refl

  -- the law of the cut
  pub cut-room : (f : List VolumeSegment) (i : ℕ) → i < length f
      → room_of (cut_of k l f i s e v) + (get_or f i zero_volume).volume.0 ≡ room_of f + room_of (parts_of (get_or f i zero_volume))
  unfolding cut_of room_of
  cut-room [] i h = absurd (omega arith)
  cut-room (g ∷ f) zero h = omega (arith, ap room_of (left-append g f), room-append (parts_of g) f)
  cut-room (g ∷ f) (suc i) h = omega (arith, cut-room f i (omega arith))

-- what the cut of a record's list does to the room, refused or done
pub cut-change : (k : ℕ) (l : List VolumeSegment) (r : FreeList) (i s e v : ℕ) → length r.segments ≡ listed_max → Inside r i v
    → room_of (listed (list_cut k l r i s e v).list) + (list_cut k l r i s e v).off.0 ≡ room_of (listed r) + (list_cut k l r i s e v).on.0
cut-change k l r i s e v size q =
    let n : length (listed r) ≡ r.count = listed-length k l r i s e v size q in
    let lt : i < length (listed r) = omega (arith, q.at) in
    ⊎_elim
    (λ h. rw (h.1, listed_in (cut_of k l (listed r) i s e v)) (cut-room k l s e v (listed r) i lt))
    (λ h. rw h)
    (cut-cases k l r i s e v)

-- what it takes off was in the room
pub cut_off : (k : ℕ) (l : List VolumeSegment) (r : FreeList) (i s e v : ℕ) → length r.segments ≡ listed_max → Inside r i v → (list_cut k l r i s e v).off.0 ≤ room_of (listed r)
cut_off k l r i s e v size q =
    let n : length (listed r) ≡ r.count = listed-length k l r i s e v size q in
    ⊎_elim
    (λ h. rw h.1 (room_at (listed r) i zero_volume (omega (arith, n, q.at))))
    (λ h. rw h (omega arith))
    (cut-cases k l r i s e v)

-- so a room that is the list's follows from what was taken off and put in
pub cut-changes : (k : ℕ) (l : List VolumeSegment) (r : FreeList) (i s e v room : ℕ) → length r.segments ≡ listed_max → Inside r i v → Roomy k l r i s e v room → Changes room (list_cut k l r i s e v)
cut-changes k l r i s e v room size q y =
    let low = cut_off k l r i s e v size q in
    record { low = omega (arith, low, y.is); is = omega (arith, low, y.is, cut-change k l r i s e v size q); small = y.small }

-- what `changed` asks
pub changed-asks : (room : ℕ) (x : Cut) → Changes room x → (x.off.0 ≤ room) × (room - x.off.0 + x.on.0 < 2 ^ 64)
changed-asks room x q = (q.low, rw q.is q.small)

-- where no span carries more than m, the room rises by at most twice that, whatever is cut
module _ (k : ℕ) (l : List VolumeSegment) (s e v m : ℕ) (most : (a b : ℕ) → capacity l a b ≤ m) where
  parts-most : (g : VolumeSegment) → room_of (parts_of k l s e v g) ≤ g.volume.0 + (m + m)
  unfolding room_of
  parts-most g =
      let one = most g.start.0 s in
      let two = most e g.end.0 in
      let rest : rest_volume k l g e v ≤ g.volume.0 + m = rest-cases k l g e v (λ x. x ≤ g.volume.0 + m) (λ y. omega arith) (λ y. omega arith) in
      left-cases k l g s e v [] (λ x. room_of x ≤ g.volume.0 + (m + m)) (λ z. omega arith) (λ z y. omega arith) (λ z y. omega arith)

  left-most : (f : List VolumeSegment) (i : ℕ) → room_of (cut_of k l f i s e v) ≤ room_of f + (m + m)
  unfolding cut_of room_of
  left-most [] i = omega arith
  left-most (g ∷ f) zero = omega (arith, ap room_of (left-append k l s e v g f), room-append (parts_of k l s e v g) f, parts-most g)
  left-most (g ∷ f) (suc i) = omega (arith, left-most f i)

  pub cut_most : (r : FreeList) (i : ℕ) → room_of (listed (list_cut k l r i s e v).list) ≤ room_of (listed r) + (m + m)
  cut_most r i =
      ⊎_elim
      (λ h. rw (h.1, listed_in (cut_of k l (listed r) i s e v)) (left-most (listed r) i))
      (λ h. rw h (omega arith))
      (cut-cases k l r i s e v)

-- a list without rates has no room before a cut, and none after
pub bare-roomy : (k : ℕ) (r : FreeList) (n hi i s e v : ℕ) → Listed [] n hi (listed r) → Roomy k [] r i s e v 0
bare-roomy k r n hi i s e v q =
    let none = bare-room n hi (listed r) q in
    record { is = none; small = omega (arith, cut_most k [] s e v 0 (λ a b. omega (arith, cap-none a (b - a))) r i, none) }

-- The exact capacity of the listed time, for any offer that stands in its segment: it falls by no less, and by no more where the offer has a length.
module _ (k : ℕ) (l : List VolumeSegment) (top s e v : ℕ) where
  -- what is listed and what is sent, beside what was listed
  abbrev Falls : ℕ → ℕ → Type 0
  Falls now was = (now + capacity l s e ≤ was) × ((s ≡ e → ⊥) → now + capacity l s e ≡ was)

  left-capacity : (g : VolumeSegment) (f : List VolumeSegment) → Here k l top g s e v
      → Falls (listed_capacity l (left_of k l g s e v f)) (capacity l g.start.0 g.end.0 + listed_capacity l f)
  unfolding listed_capacity
  left-capacity g f h =
      let from : g.start.0 ≤ s = h.from in
      let forth : s ≤ e = h.ends.forth in
      let by : e ≤ g.end.0 = h.ends.by in
      let sent = capacity-split l s e g.end.0 forth by in
      let whole = capacity-split l g.start.0 s g.end.0 from (omega arith) in
      let at-start : g.start.0 ≡ s → capacity l g.start.0 s ≡ 0 = λ z. capacity-none l g.start.0 s (omega arith) in
      left-cases k l g s e v f (λ x. Falls (listed_capacity l x) (capacity l g.start.0 g.end.0 + listed_capacity l f))
      (λ (z : g.start.0 ≡ s). (omega (arith, sent, whole), λ n. omega (arith, sent, whole, at-start z)))
      (λ (z : g.start.0 ≡ s → ⊥) (y : s ≡ e). (omega (arith, sent, whole), λ n. absurd (n y)))
      (λ (z : g.start.0 ≡ s → ⊥) (y : s ≡ e → ⊥). (omega (arith, sent, whole), λ n. omega (arith, sent, whole)))

  pub cut-capacity : (f : List VolumeSegment) (i : ℕ) → Offered k l top f i s e v → Falls (listed_capacity l (cut_of k l f i s e v)) (listed_capacity l f)
  unfolding AtPlace cut_of listed_capacity
  cut-capacity [] i h = absurd h
  cut-capacity (g ∷ f) zero h = left-capacity g f h
  cut-capacity (g ∷ f) (suc i) h = let q = cut-capacity f i h in (omega (arith, q.0), λ n. omega (arith, q.1 n))
