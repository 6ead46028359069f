-- The cut of a record's list: its two answers, and that the list it leaves keeps the record's rules.
use Prim.Native.Nat.{ℕ, ◌<◌, ◌≤◌}
use mathlib.Core.Bool.{true}
use mathlib.Core.Path.{◌≡◌, refl, ap, ◌∙◌}
use mathlib.Core.List.{List, []}
use mathlib.Core.Logic.{⊎_elim, ◌⊎◌, inl, inr}
use native.Mathlib.Omega.{arith}
use lib.ListN.{length, drop, get_or, length-take}
use lib.Seq.{get_or-take}
use Rattle.units.specs.Limits.{listed_max}
use Rattle.units.specs.Logic.{both, all_of}
use Rattle.units.proofs.Numbers.{le-or-lt}
use Rattle.units.proofs.Arrays.{length-padded, take-padded, unused-padded}
use Rattle.segmentation.specs.declared.VolumeSegment.{VolumeSegment}
use Rattle.segmentation.specs.Blank.{no_volume}
use Rattle.contact.specs.Segments.{zero_volume}
use Rattle.free_list.specs.declared.FreeList.{FreeList}
use Rattle.free_list.specs.declared.Cut.{Cut}
use Rattle.free_list.specs.Listed.{list_ok}
use Rattle.free_list.specs.Room.{room_of}
use Rattle.free_list.specs.Cut.{left_of, cut_of, listed, list_in, cut_answer, list_cut}
use Rattle.free_list.specs.Granted.{Inside}
use Rattle.free_list.proofs.ListedLaws.{Listed, true-listed}
use Rattle.free_list.proofs.Offered.{Offered, offered-at}
use Rattle.free_list.proofs.CutLaws.{cut-listed, cut-some}
use Rattle.free_list.proofs.Places.{cut-done, cut-full}

-- the rules of a record's free list
pub record Kept (l : List VolumeSegment) (n hi : ℕ) (r : FreeList) : Type 0 where
  pub some : 1 ≤ r.count
  pub few : r.count ≤ listed_max
  pub size : length r.segments ≡ listed_max
  pub rules : list_ok l n hi (listed r) ≡ true
  pub unused : all_of no_volume (drop r.count r.segments) ≡ true

zero-unused : no_volume zero_volume ≡ true
unfolding no_volume both
zero-unused = refl

pub listed_in : (f : List VolumeSegment) → listed (list_in f) ≡ f
listed_in f = take-padded listed_max zero_volume f (length f) refl

pub kept_in : (l : List VolumeSegment) (n hi : ℕ) (f : List VolumeSegment) → 1 ≤ length f → length f ≤ listed_max → Listed l n hi f → Kept l n hi (list_in f)
kept_in l n hi f some few q =
    record {
      some = some;
      few = few;
      size = length-padded listed_max zero_volume f few;
      rules = ap (list_ok l n hi) (listed_in f) ∙ true-listed l n hi f q;
      unused = unused-padded listed_max zero_volume no_volume f (length f) refl zero-unused;
    }

module _ (k : ℕ) (l : List VolumeSegment) (r : FreeList) (i s e v : ℕ) where
  abbrev left : List VolumeSegment
  left = cut_of k l (listed r) i s e v

  -- the segment that is cut
  abbrev was : VolumeSegment
  was = get_or (listed r) i zero_volume

  pub cut-cases : ((length left ≤ listed_max) × (list_cut k l r i s e v ≡ cut_answer 0 (list_in left) was.volume.0 (room_of (left_of k l was s e v []))))
      ⊎ (list_cut k l r i s e v ≡ cut_answer 10 r 0 0)
  cut-cases =
      ⊎_elim
      (λ (h : length left ≤ listed_max). inl (h, cut-done k l r i s e v h))
      (λ (h : listed_max < length left). inr (cut-full k l r i s e v h))
      (le-or-lt (length left) listed_max)

  -- the number is 0 or 10
  pub cut-number : ((list_cut k l r i s e v).number ≡ 0) ⊎ ((list_cut k l r i s e v).number ≡ 10)
  cut-number = ⊎_elim (λ h. inl (ap (λ (x : Cut). x.number) h.1)) (λ h. inr (ap (λ (x : Cut). x.number) h)) cut-cases

  -- a refusal hands the list back as it came
  pub cut-refused : ((list_cut k l r i s e v).number ≡ 0 → ⊥) → (list_cut k l r i s e v).list ≡ r
  cut-refused n =
      ⊎_elim
      (λ h. absurd (n (ap (λ (x : Cut). x.number) h.1)))
      (λ h. ap (λ (x : Cut). x.list) h)
      cut-cases

  module _ (z : (list_cut k l r i s e v).number ≡ 0) where
    cut-zero : (length left ≤ listed_max) × ((list_cut k l r i s e v).list ≡ list_in left)
    cut-zero =
        ⊎_elim
        (λ h. (h.0, ap (λ (x : Cut). x.list) h.1))
        (λ (h : list_cut k l r i s e v ≡ cut_answer 10 r 0 0). absurd (omega (arith, ap (λ (x : Cut). x.number) h)))
        cut-cases

    pub cut-few : length left ≤ listed_max
    cut-few = cut-zero.0

    -- what is listed is the cut of what was listed
    pub cut_list : (list_cut k l r i s e v).list ≡ list_in left
    cut_list = cut-zero.1

    pub cut-lists : listed (list_cut k l r i s e v).list ≡ left
    cut-lists = ap listed cut_list ∙ listed_in left

    pub cut-kept : (top n hi : ℕ) → Listed l n hi (listed r) → Offered k l top (listed r) i s e v → Kept l n hi (list_cut k l r i s e v).list
    cut-kept top n hi q h =
        let at = (offered-at k l top (listed r) i s e v h).0 in
        rw cut_list (kept_in l n hi left (cut-some k l top hi s e v (listed r) i (omega (arith, at))) cut-few (cut-listed k l top hi s e v (listed r) n i q h))

  -- an offer of the record's list is one that `cut` takes
  pub offered-inside-list : (top : ℕ) → r.count ≤ listed_max → all_of no_volume (drop r.count r.segments) ≡ true → Offered k l top (listed r) i s e v → Inside r i v
  offered-inside-list top few unused h =
      let o = offered-at k l top (listed r) i s e v h in
      let lt : i < r.count = omega (arith, simp length-take at o.0) in
      record {
        few = few;
        at = lt;
        room = rw (get_or-take r.count r.segments i zero_volume lt) at o.1.room;
        unused = unused;
      }
