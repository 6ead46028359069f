-- The test of the volume segments in one pass, with the date reached and the volume left, is the one that is asked.
use Prim.Native.Nat.{ℕ, ◌-◌, ◌*◌, ◌%◌, ◌<◌, ◌≤◌}
use mathlib.Core.Bool.{Bool, true, false}
use mathlib.Core.Path.{◌≡◌, refl, sym, ◌∙◌}
use mathlib.Core.List.{List, [], ◌∷◌, map}
use native.Mathlib.Nat.{div-add-mod'}
use native.Mathlib.Omega.{arith}
use lib.Dec.{eqb}
use borrow.Author.Tests.{eqb-true, ltb-true, leb-true, eq-eqb, lt-ltb, le-leb}
use Rattle.units.specs.Limits.{volume_max}
use Rattle.units.specs.declared.Interval.{Interval}
use Rattle.units.specs.Logic.{both, all_of}
use Rattle.units.proofs.Logic.{both_go, both-stop, both-fst, both-snd, both_yes, same_test, all_go, all_head, all_tail, all_none}
use Rattle.segmentation.specs.declared.VolumeSegment.{VolumeSegment}
use Rattle.segmentation.specs.Capacity.{rate_of}
use Rattle.contact.specs.Segments.{volume_span, spans, rate_segment, whole_of}
use Rattle.contact.specs.Open.{rate_ok, total_of, volume_ok}
use Rattle.contact.specs.Granted.{takes_of, volumes_ok}
use Rattle.contact.proofs.Spans.{spans-end, spans-go, spans-start, spans-some, spans-rest}

-- what is asked, with the volume left
pub record Kept (b a room : ℕ) (l : List VolumeSegment) : Type 0 where
  pub spanned : spans volume_span a b l ≡ true
  pub whole : all_of whole_of l ≡ true
  pub rates : all_of rate_ok (map rate_segment l) ≡ true
  pub total : total_of (map rate_segment l) ≤ room

-- and what one segment is asked in its turn
pub record Takes (s : VolumeSegment) (a room : ℕ) : Type 0 where
  pub start : s.start.0 ≡ a
  pub some : s.start.0 < s.end.0
  pub within : s.volume.0 ≤ room
  pub slow : rate_ok (rate_segment s) ≡ true
  pub whole : s.volume.0 ≡ rate_of s * (s.end.0 - s.start.0)

module _ (s : VolumeSegment) (a room : ℕ) where
  pub takes : takes_of s a room ≡ true → Takes s a room
  unfolding takes_of
  takes e =
      let e1 = both-snd _ _ e in
      let e2 = both-snd _ _ e1 in
      let e3 = both-snd _ _ e2 in
      let none : s.volume.0 % (s.end.0 - s.start.0) ≡ 0 = eqb-true _ _ (both-snd _ _ e3) in
      record {
        start = eqb-true _ _ (both-fst _ _ e);
        some = ltb-true _ _ (both-fst _ _ e1);
        within = leb-true _ _ (both-fst _ _ e2);
        slow = both-fst _ _ e3;
        whole = omega (arith, div-add-mod' s.volume.0 (s.end.0 - s.start.0));
      }

  pub takes_back : Takes s a room → takes_of s a room ≡ true
  unfolding takes_of
  takes_back t =
      let none : s.volume.0 % (s.end.0 - s.start.0) ≡ 0 = omega (arith, t.whole, div-add-mod' s.volume.0 (s.end.0 - s.start.0)) in
      both_yes _ _ (eq-eqb _ _ t.start) (both_yes _ _ (lt-ltb _ _ t.some) (both_yes _ _ (le-leb _ _ t.within) (both_yes _ _ t.slow (eq-eqb _ _ none))))

-- the pass: the date reached and the volume left, then the segments
unfoldable pub taken : ℕ → (ℕ × ℕ) → List VolumeSegment → Bool
taken b at [] = eqb at.0 b
taken b at (s ∷ l) = both (takes_of s at.0 at.1) (taken b (s.end.0, at.1 - s.volume.0) l)

module _ (b : ℕ) (at : ℕ × ℕ) where
  pub taken-end : taken b at [] ≡ eqb at.0 b
  unfolding taken
  taken-end = refl

  module _ (s : VolumeSegment) (l : List VolumeSegment) where
    pub taken-stop : takes_of s at.0 at.1 ≡ false → taken b at (s ∷ l) ≡ false
    unfolding taken
    taken-stop e = both-stop _ _ e

    pub taken-go : takes_of s at.0 at.1 ≡ true → taken b at (s ∷ l) ≡ taken b (s.end.0, at.1 - s.volume.0) l
    unfolding taken
    taken-go e = both_go _ _ e

-- one segment more is kept where it is taken
kept_more : (b a room : ℕ) (s : VolumeSegment) (l : List VolumeSegment) → Takes s a room → Kept b s.end.0 (room - s.volume.0) l → Kept b a room (s ∷ l)
unfolding total_of
kept_more b a room s l t k =
    record {
      spanned = spans-go volume_span b s l a t.start t.some ∙ k.spanned;
      whole = all_go whole_of s l (eq-eqb _ _ t.whole) ∙ k.whole;
      rates = all_go rate_ok (rate_segment s) (map rate_segment l) t.slow ∙ k.rates;
      total = omega (arith, t.whole, t.within, k.total);
    }

-- and the first segment of those kept is taken
pub kept-first : (b a room : ℕ) (s : VolumeSegment) (l : List VolumeSegment) → Kept b a room (s ∷ l) → Takes s a room
unfolding total_of
kept-first b a room s l k =
    let whole : s.volume.0 ≡ rate_of s * (s.end.0 - s.start.0) = eqb-true _ _ (all_head whole_of s l k.whole) in
    record {
      start = spans-start volume_span b s l a k.spanned;
      some = spans-some volume_span b s l a k.spanned;
      within = omega (arith, k.total);
      slow = all_head rate_ok (rate_segment s) (map rate_segment l) k.rates;
      whole = whole;
    }

pub kept-rest : (b a room : ℕ) (s : VolumeSegment) (l : List VolumeSegment) → Kept b a room (s ∷ l) → Kept b s.end.0 (room - s.volume.0) l
unfolding total_of
kept-rest b a room s l k =
    let t = kept-first b a room s l k in
    record {
      spanned = spans-rest volume_span b s l a k.spanned;
      whole = all_tail whole_of s l k.whole;
      rates = all_tail rate_ok (rate_segment s) (map rate_segment l) k.rates;
      total = omega (arith, k.total, t.whole);
    }

pub taken-kept : (b : ℕ) (at : ℕ × ℕ) (l : List VolumeSegment) → taken b at l ≡ true → Kept b at.0 at.1 l
unfolding taken total_of
taken-kept b at [] e = record { spanned = spans-end volume_span b at.0 ∙ e; whole = all_none whole_of; rates = all_none rate_ok; total = omega arith }
taken-kept b at (s ∷ l) e =
    let t : Takes s at.0 at.1 = takes s at.0 at.1 (both-fst _ _ e) in
    kept_more b at.0 at.1 s l t (taken-kept b (s.end.0, at.1 - s.volume.0) l (both-snd _ _ e))

pub kept-taken : (b : ℕ) (at : ℕ × ℕ) (l : List VolumeSegment) → Kept b at.0 at.1 l → taken b at l ≡ true
unfolding taken
kept-taken b at [] k = sym (spans-end volume_span b at.0) ∙ k.spanned
kept-taken b at (s ∷ l) k =
    both_yes _ _ (takes_back s at.0 at.1 (kept-first b at.0 at.1 s l k)) (kept-taken b (s.end.0, at.1 - s.volume.0) l (kept-rest b at.0 at.1 s l k))

module _ (w : Interval) (l : List VolumeSegment) where
  pub volumes-kept : volumes_ok w l ≡ true → Kept w.end.0 w.start.0 volume_max l
  unfolding volumes_ok volume_ok
  volumes-kept e =
      let e1 = both-snd _ _ e in
      let e2 = both-snd _ _ e1 in
      record { spanned = both-fst _ _ e; whole = both-fst _ _ e1; rates = both-fst _ _ e2; total = leb-true _ _ (both-snd _ _ e2) }

  pub kept-volumes : Kept w.end.0 w.start.0 volume_max l → volumes_ok w l ≡ true
  unfolding volumes_ok volume_ok
  kept-volumes k = both_yes _ _ k.spanned (both_yes _ _ k.whole (both_yes _ _ k.rates (le-leb _ _ k.total)))

  pub taken_is : volumes_ok w l ≡ taken w.end.0 (w.start.0, volume_max) l
  taken_is =
      same_test _ _ (λ e. kept-taken _ (w.start.0, volume_max) l (volumes-kept e)) (λ e. kept-volumes (taken-kept _ (w.start.0, volume_max) l e))
