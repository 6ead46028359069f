-- The cut of the list, done in an array with a count and nothing past it: a store at the place, and one more segment after it.
use Prim.Native.Nat.{ℕ, zero, suc, ◌+◌, ◌-◌, ◌<◌, ◌≤◌}
use mathlib.Core.Bool.{true}
use mathlib.Core.Path.{◌≡◌, refl, sym, ap, ◌∙◌}
use mathlib.Core.List.{List, [], ◌∷◌, ◌++◌, append_assoc}
use native.Mathlib.Numerals.{add-one}
use native.Mathlib.Omega.{arith}
use lib.ListN.{length, take, drop, get_or, set, replicate, length-take, length-drop, length-append}
use lib.Seq.{set-append_left, take-set-lt, take-suc-set, take-append-le, drop-append-add, get_or-take, length-take-le}
use borrow.Author.Tests.{eqb-true, le-leb, lt-leb}
use Rattle.units.specs.Limits.{listed_max}
use Rattle.units.specs.Logic.{all_of}
use Rattle.units.specs.Arrays.{padded}
use Rattle.units.proofs.Logic.{both-fst, both-snd, unless-go, unless-stop}
use Rattle.units.proofs.Arrays.{take-padded}
use Rattle.units.proofs.Padded.{padded-is, padded-set}
use Rattle.segmentation.specs.declared.VolumeSegment.{VolumeSegment}
use Rattle.segmentation.specs.Capacity.{capacity}
use Rattle.segmentation.specs.Blank.{no_volume}
use Rattle.contact.specs.Segments.{zero_volume}
use Rattle.free_list.specs.declared.FreeList.{FreeList}
use Rattle.free_list.specs.Room.{room_of}
use Rattle.free_list.specs.Cut.{rest_of, stretch_of, left_of, cut_of, listed, list_in, cut_answer, list_cut}
use Rattle.free_list.specs.Granted.{Inside, insert_of, left_in}
use Rattle.free_list.proofs.RoomLaws.{room-one, room-two}
use Rattle.free_list.proofs.CutLaws.{left-start, left-flat, left-two}

pub zero-segment : (a b v : ℕ) → a ≡ 0 → b ≡ 0 → v ≡ 0
    → record { start = record { 0 = a }; end = record { 0 = b }; volume = record { 0 = v } } ≡ zero_volume
zero-segment a b v h k m = rw (h, k, m)

-- only the zero segment is none
pub no-volume-zero : (s : VolumeSegment) → no_volume s ≡ true → s ≡ zero_volume
unfolding no_volume
no-volume-zero s h =
    let k = both-snd _ _ h in
    zero-segment s.start.0 s.end.0 s.volume.0 (eqb-true _ _ (both-fst _ _ h)) (eqb-true _ _ (both-fst _ _ k)) (eqb-true _ _ (both-snd _ _ k))

-- the segments of a record with nothing in its unused places
pub segments-are : (r : FreeList) → r.count ≤ listed_max → length r.segments ≡ listed_max → all_of no_volume (drop r.count r.segments) ≡ true
    → r.segments ≡ padded listed_max zero_volume (listed r)
segments-are r few size unused = padded-is no_volume zero_volume no-volume-zero listed_max r.count r.segments size few unused

-- a store at a place of the list, and one more element after it
padded-two : {A : Type 0} (m : ℕ) (z : A) (l : List A) (i : ℕ) (x y : A) → i < length l → length l < m
    → set (insert_of (padded m z l) (length l) (i + 1) y) i x ≡ padded m z (take i l ++ (x ∷ (y ∷ drop (suc i) l)))
unfolding padded
padded-two {A} m z l i x y lt room =
    let n : ℕ = length l in
    let d : List A = drop (suc i) l in
    let zs : List A = replicate (m - suc (length l)) z in
    let more : m - length l ≡ suc (m - suc (length l)) = omega arith in
    let front : take (suc i) (l ++ replicate (m - length l) z) ≡ take (suc i) l = take-append-le (suc i) l _ (omega arith) in
    let list : take (length l) (l ++ replicate (m - length l) z) ≡ l = unfold padded in take-padded m z l (length l) refl in
    let past : drop (length l + 1) (l ++ replicate (m - length l) z) ≡ zs = drop-append-add l (replicate (m - length l) z) 1 ∙ ap (λ (k : ℕ). drop 1 (replicate k z)) more in
    let len : i < length (take (suc i) l) = simp length-take (omega arith) in
    let head : set (take (suc i) l) i x ≡ take i l ++ (x ∷ []) = sym (take-set-lt (suc i) l i x (omega arith)) ∙ take-suc-set l i x lt in
    let size : m - length (take i l ++ (x ∷ (y ∷ d))) ≡ m - suc (length l) = simp (length-append, length-take, length-drop) (omega arith) in
    rw (add-one i, front, list, past, size)
    (set-append_left (take (suc i) l) (y ∷ (d ++ zs)) i x len ∙ rw head (simp append_assoc))

-- the cut list, around the place that is cut
cut_at : (k : ℕ) (l f : List VolumeSegment) (i s e v : ℕ) → i < length f
    → cut_of k l f i s e v ≡ take i f ++ left_of k l (get_or f i zero_volume) s e v (drop (suc i) f)
unfolding cut_of
cut_at k l [] i s e v h = absurd (omega arith)
cut_at k l (g ∷ f) zero s e v h = refl
cut_at k l (g ∷ f) (suc i) s e v h = ap (λ (x : List VolumeSegment). g ∷ x) (cut_at k l f i s e v (omega arith))

-- The cut list in each of its three ways, and how long it is in two.
module _ (k : ℕ) (l f : List VolumeSegment) (i s e v : ℕ) (lt : i < length f) where
  abbrev g : VolumeSegment
  g = get_or f i zero_volume

  one-length : (x : VolumeSegment) → length (take i f ++ (x ∷ drop (suc i) f)) ≡ length f
  one-length x = simp (length-append, length-take, length-drop) (omega arith)

  pub cut-start : g.start.0 ≡ s → cut_of k l f i s e v ≡ take i f ++ (rest_of k l g e v ∷ drop (suc i) f)
  cut-start h = cut_at k l f i s e v lt ∙ ap (λ (x : List VolumeSegment). take i f ++ x) (left-start k l g s e v (drop (suc i) f) h)

  module _ (h : g.start.0 ≡ s → ⊥) where
    pub cut-flat : s ≡ e → cut_of k l f i s e v ≡ take i f ++ (stretch_of l g.start.0 s ∷ drop (suc i) f)
    cut-flat q = cut_at k l f i s e v lt ∙ ap (λ (x : List VolumeSegment). take i f ++ x) (left-flat k l g s e v (drop (suc i) f) h q)

    pub cut-two : (s ≡ e → ⊥)
        → cut_of k l f i s e v ≡ take i f ++ (stretch_of l g.start.0 s ∷ (stretch_of l e g.end.0 ∷ drop (suc i) f))
    cut-two q = cut_at k l f i s e v lt ∙ ap (λ (x : List VolumeSegment). take i f ++ x) (left-two k l g s e v (drop (suc i) f) h q)

    pub cut-two-length : (s ≡ e → ⊥) → length (cut_of k l f i s e v) ≡ suc (length f)
    cut-two-length q = ap length (cut-two q) ∙ simp (length-append, length-take, length-drop) (omega arith)

-- The two answers of a cut.
module _ (k : ℕ) (l : List VolumeSegment) (r : FreeList) (i s e v : ℕ) where
  pub cut-done : length (cut_of k l (listed r) i s e v) ≤ listed_max
      → list_cut k l r i s e v ≡ cut_answer 0 (list_in (cut_of k l (listed r) i s e v)) (get_or (listed r) i zero_volume).volume.0 (room_of (left_of k l (get_or (listed r) i zero_volume) s e v []))
  unfolding list_cut
  cut-done h = unless-go _ _ _ (le-leb _ _ h)

  pub cut-full : listed_max < length (cut_of k l (listed r) i s e v) → list_cut k l r i s e v ≡ cut_answer 10 r 0 0
  unfolding list_cut
  cut-full h = unless-stop _ _ _ (lt-leb _ _ h)

made : (a b : List VolumeSegment) (n m off on to : ℕ) → a ≡ b → n ≡ m → on ≡ to → left_in a n off on ≡ left_in b m off to
made a b n m off on to h k j = rw (h, k, j)

-- The stores of a cut in a record are the cut of its list.
module _ (k : ℕ) (l : List VolumeSegment) (r : FreeList) (i s e v : ℕ) (size : length r.segments ≡ listed_max) (q : Inside r i v) where
  few : r.count ≤ listed_max
  few = q.few

  at : i < r.count
  at = q.at

  pub listed-length : length (listed r) ≡ r.count
  listed-length = length-take-le r.count r.segments (omega (arith, few))

  in_list : i < length (listed r)
  in_list = omega (arith, listed-length, at)

  whole : r.segments ≡ padded listed_max zero_volume (listed r)
  whole = segments-are r few size q.unused

  here : get_or (listed r) i zero_volume ≡ get_or r.segments i zero_volume
  here = get_or-take r.count r.segments i zero_volume at

  -- the segment that is cut, and the room of what is left of it
  abbrev was : VolumeSegment
  was = get_or (listed r) i zero_volume

  abbrev put : ℕ
  put = room_of (left_of k l was s e v [])

  stored_is : (x : VolumeSegment) (on : ℕ) → cut_of k l (listed r) i s e v ≡ take i (listed r) ++ (x ∷ drop (suc i) (listed r)) → on ≡ put
      → left_in (set r.segments i x) r.count was.volume.0 on ≡ list_cut k l r i s e v
  stored_is x on h j =
      let len : length (cut_of k l (listed r) i s e v) ≡ length (listed r) = ap length h ∙ one-length k l (listed r) i s e v in_list x in
      made _ _ _ _ _ _ _ (ap (λ (a : List VolumeSegment). set a i x) whole ∙ padded-set listed_max zero_volume (listed r) i x in_list ∙ ap (padded listed_max zero_volume) (sym h))
      (omega (arith, len, listed-length)) j
      ∙ sym (cut-done k l r i s e v (omega (arith, len, listed-length, few)))

  two_is : (x y : VolumeSegment) (on : ℕ) → r.count < listed_max → cut_of k l (listed r) i s e v ≡ take i (listed r) ++ (x ∷ (y ∷ drop (suc i) (listed r)))
      → length (cut_of k l (listed r) i s e v) ≡ suc (length (listed r)) → on ≡ put
      → left_in (set (insert_of r.segments r.count (i + 1) y) i x) (r.count + 1) was.volume.0 on ≡ list_cut k l r i s e v
  two_is x y on room h len j =
      let two : set (insert_of r.segments r.count (i + 1) y) i x ≡ padded listed_max zero_volume (cut_of k l (listed r) i s e v)
      = ap (λ (a : List VolumeSegment). set (insert_of a r.count (i + 1) y) i x) whole
      ∙ ap (λ (n : ℕ). set (insert_of (padded listed_max zero_volume (listed r)) n (i + 1) y) i x) (sym listed-length)
      ∙ padded-two listed_max zero_volume (listed r) i x y in_list (omega (arith, listed-length))
      ∙ ap (padded listed_max zero_volume) (sym h) in
      made _ _ _ _ _ _ _ two (omega (arith, len, listed-length)) j
      ∙ sym (cut-done k l r i s e v (omega (arith, len, listed-length)))

  abbrev seg : VolumeSegment
  seg = get_or r.segments i zero_volume

  pub book-start : seg.start.0 ≡ s → left_in (set r.segments i (rest_of k l seg e v)) r.count seg.volume.0 (rest_of k l seg e v).volume.0 ≡ list_cut k l r i s e v
  book-start h =
      let q : was.start.0 ≡ s = rw here h in
      rw (← here) (stored_is _ _ (cut-start k l (listed r) i s e v in_list q) (sym (ap room_of (left-start k l was s e v [] q) ∙ room-one _)))

  module _ (h : seg.start.0 ≡ s → ⊥) where
    within : was.start.0 ≡ s → ⊥
    within = rw here h

    pub book-flat : s ≡ e → left_in (set r.segments i (stretch_of l seg.start.0 s)) r.count seg.volume.0 (capacity l seg.start.0 s) ≡ list_cut k l r i s e v
    book-flat q = rw (← here) (stored_is _ _ (cut-flat k l (listed r) i s e v in_list within q) (sym (ap room_of (left-flat k l was s e v [] within q) ∙ room-one _)))

    module _ (apart : s ≡ e → ⊥) where
      two-length : length (cut_of k l (listed r) i s e v) ≡ suc (length (listed r))
      two-length = cut-two-length k l (listed r) i s e v in_list within apart

      pub book-full : listed_max ≤ r.count → cut_answer 10 r 0 0 ≡ list_cut k l r i s e v
      book-full full = sym (cut-full k l r i s e v (omega (arith, two-length, listed-length)))

      pub book-two : r.count < listed_max
          → left_in (set (insert_of r.segments r.count (i + 1) (stretch_of l e seg.end.0)) i (stretch_of l seg.start.0 s)) (r.count + 1)
          seg.volume.0 (capacity l seg.start.0 s + capacity l e seg.end.0)
          ≡ list_cut k l r i s e v
      book-two room =
          rw (← here)
          (two_is _ _ _ room (cut-two k l (listed r) i s e v in_list within apart) two-length (sym (ap room_of (left-two k l was s e v [] within apart) ∙ room-two _ _)))
