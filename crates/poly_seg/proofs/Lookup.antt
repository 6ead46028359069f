-- The test of the delays by either rule, and what it tells of the lookups: the delays are short, and by rule 2 cover the window.
use Prim.Native.Nat.{ℕ, ◌≤◌}
use mathlib.Core.Bool.{Bool, true, false}
use mathlib.Core.Path.{◌≡◌, refl}
use mathlib.Core.List.{List, [], ◌∷◌}
use lib.Dec.{eqb}
use lib.ListN.{take}
use borrow.Author.Tests.{leb-true, eq-eqb}
use Rattle.units.specs.declared.Interval.{Interval}
use Rattle.units.specs.Limits.{segments_max}
use Rattle.units.specs.Logic.{all_of, pick}
use Rattle.units.proofs.Logic.{no_both, both-fst, both-snd, all_head, all_tail}
use Rattle.segmentation.specs.declared.DelaySegment.{DelaySegment}
use Rattle.segmentation.specs.Granted.{AllShort}
use Rattle.contact.specs.Segments.{delay_span, spans, covers, delays_ok as cover_ok}
use Rattle.contact.proofs.Delays.{delays-most as cover-most, delays-span, delays-brief}
use Rattle.contact.proofs.Lookup.{all_short as cover-short}
use Rattle.poly_seg.specs.Open.{delay_ok, delays_ok, delays_by}

pub all_short : (l : List DelaySegment) → all_of delay_ok l ≡ true → AllShort l
unfolding AllShort delay_ok
all_short [] e = tt
all_short (d ∷ l) e = (leb-true _ _ (both-snd _ _ (both-snd _ _ (all_head delay_ok d l e))), all_short l (all_tail delay_ok d l e))

module _ (k : ℕ) (l : List DelaySegment) (e : delays_ok k l ≡ true) where
  first-most : k ≤ segments_max
  unfolding delays_ok
  first-most = leb-true _ _ (both-fst _ _ e)

  first_short : AllShort (take k l)
  unfolding delays_ok
  first_short = all_short _ (both-snd _ _ e)

-- by either rule
module _ (rule : ℕ) (w : Interval) (k : ℕ) (l : List DelaySegment) where
  module _ (e : delays_by rule w k l ≡ true) where
    pub delays-most : k ≤ segments_max
    unfolding delays_by
    delays-most = most (eqb rule 2) e
      where
        most : (c : Bool) → pick c (cover_ok w k l) (delays_ok k l) ≡ true → k ≤ segments_max
        most true q = cover-most w k l q
        most false q = first-most k l q

    pub delays-short : AllShort (take k l)
    unfolding delays_by
    delays-short = short (eqb rule 2) e
      where
        short : (c : Bool) → pick c (cover_ok w k l) (delays_ok k l) ≡ true → AllShort (take k l)
        short true q = cover-short (take k l) (delays-brief w k l q)
        short false q = first_short k l q

    -- by rule 2 they cover the window
    pub delays-cover : rule ≡ 2 → spans delay_span w.start.0 w.end.0 (take k l) ≡ true
    unfolding delays_by
    delays-cover two = delays-span w k l (cover (eqb rule 2) (eq-eqb rule 2 two) e)
      where
        cover : (c : Bool) → c ≡ true → pick c (cover_ok w k l) (delays_ok k l) ≡ true → cover_ok w k l ≡ true
        cover true h q = q
        cover false h q = absurd (no_both h refl)

  pub by-second : eqb rule 2 ≡ true → delays_by rule w k l ≡ cover_ok w k l
  unfolding delays_by
  by-second h = simp h

  pub by_first : eqb rule 2 ≡ false → delays_by rule w k l ≡ delays_ok k l
  unfolding delays_by
  by_first h = simp h

  -- the test of the first places only
  pub by-takes : (m : List DelaySegment) → take k l ≡ take k m → delays_by rule w k l ≡ delays_by rule w k m
  unfolding delays_by delays_ok cover_ok covers
  by-takes m e = rw e
