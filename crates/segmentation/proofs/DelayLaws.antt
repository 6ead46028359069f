-- What may be used of the delays: where they are found, that they are short, and the answer made of them.
use Rattle.std.specs.Prelude.{Option, Some, None}
use Prim.Native.Nat.{ℕ, ◌+◌, ◌<◌, ◌≤◌}
use mathlib.Core.Bool.{Bool, true, false}
use mathlib.Core.Path.{◌≡◌, refl, sym, ap, ◌∙◌}
use mathlib.Core.List.{List, [], ◌∷◌}
use mathlib.Core.Logic.{⊎_elim, ◌⊎◌}
use native.Mathlib.Omega.{arith}
use lib.Dec.{leb, ltb, eqb}
use lib.ListN.{length}
use borrow.Author.Tests.{le-leb, lt-leb, le-ltb, leb-true, leb-false, lt-ltb, eq-eqb, ne_eqb}
use Rattle.units.specs.Limits.{delay_max}
use Rattle.units.specs.Logic.{pick}
use Rattle.units.specs.Answer.{interval, refused}
use Rattle.units.specs.declared.Delay.{Delay}
use Rattle.units.specs.declared.Interval.{Interval}
use Rattle.units.specs.declared.Offer.{Offer}
use Rattle.units.proofs.Logic.{both_yes, both_go, both-not, no_both, pick-keeps}
use Rattle.segmentation.specs.declared.DelaySegment.{DelaySegment}
use Rattle.segmentation.specs.declared.Delays.{Delays}
use Rattle.segmentation.specs.Delay.{lies_in, belongs, from_date, heads, delays_of, answer_of}
use Rattle.segmentation.specs.Granted.{Short, AllShort}

-- What a date belongs to, by either rule.
module _ (rule t : ℕ) (d : DelaySegment) where
  -- by rule 1 it is the end that tells
  pub belongs-first : (n : ℕ) → eqb rule 2 ≡ false → belongs rule t d n ≡ leb t d.end.0
  unfolding belongs
  belongs-first n h = simp h

  pub belongs-second : (n : ℕ) → eqb rule 2 ≡ true → belongs rule t d n ≡ lies_in t d n
  unfolding belongs
  belongs-second n h = simp h

  pub belongs-past : (n : ℕ) → d.end.0 < t → belongs rule t d n ≡ false
  unfolding belongs
  belongs-past n h =
      let out : leb t d.end.0 ≡ false = lt-leb _ _ h in
      pick-keeps (λ (b : Bool). b ≡ false) (eqb rule 2) (lies_in t d n) (leb t d.end.0)
      (λ c. both-not (leb d.start.0 t) _
      (pick-keeps (λ (b : Bool). b ≡ false) (eqb n 0) (leb t d.end.0) (ltb t d.end.0) (λ z. out) (λ z. le-ltb t d.end.0 (omega arith))))
      (λ c. out)

  module _ (low : d.start.0 ≤ t) where
    pub belongs-inside : (n : ℕ) → t < d.end.0 → belongs rule t d n ≡ true
    unfolding belongs
    belongs-inside n h =
        let by : t ≤ d.end.0 = omega arith in
        pick-keeps (λ (b : Bool). b ≡ true) (eqb rule 2) (lies_in t d n) (leb t d.end.0)
        (λ c. both_yes _ _ (le-leb _ _ low)
        (pick-keeps (λ (b : Bool). b ≡ true) (eqb n 0) (leb t d.end.0) (ltb t d.end.0) (λ z. le-leb _ _ by) (λ z. lt-ltb t d.end.0 h)))
        (λ c. le-leb _ _ by)

    pub belongs-last : t ≤ d.end.0 → belongs rule t d 0 ≡ true
    unfolding belongs
    belongs-last h =
        pick-keeps (λ (b : Bool). b ≡ true) (eqb rule 2) (lies_in t d 0) (leb t d.end.0)
        (λ c. both_yes _ _ (le-leb _ _ low) (le-leb _ _ h))
        (λ c. le-leb _ _ h)

    -- on its end, by rule 2: only of the last
    pub belongs-end : (n : ℕ) → eqb rule 2 ≡ true → t ≡ d.end.0 → belongs rule t d n ≡ eqb n 0
    belongs-end n two e =
        belongs-second n two ∙ both_go _ _ (le-leb _ _ low)
        ∙ ap (λ (x : Bool). pick (eqb n 0) x (ltb t d.end.0)) (le-leb t d.end.0 (omega arith))
        ∙ ap (pick (eqb n 0) true) (le-ltb t d.end.0 (omega arith)) ∙ chosen (eqb n 0)
      where
        chosen : (b : Bool) → pick b true false ≡ b
        chosen true = refl
        chosen false = refl

-- the test of the end by rule 2: of the last segment, and of another
pub lies-last : (n a b : ℕ) → n ≡ 0 → pick (eqb n 0) (leb a b) (ltb a b) ≡ leb a b
lies-last n a b h = simp (eq-eqb n 0 h)

pub lies-before : (n a b : ℕ) → (n ≡ 0 → ⊥) → pick (eqb n 0) (leb a b) (ltb a b) ≡ ltb a b
lies-before n a b h = simp (ne_eqb n 0 h)

-- the date belongs to some segment
unfoldable pub Reaches : ℕ → ℕ → List DelaySegment → Type 0
Reaches rule t [] = ⊥
Reaches rule t (d ∷ l) = (belongs rule t d (length l) ≡ true) ⊎ (Reaches rule t l)

-- both lookups find a segment
pub record Finds (r : Option Delays) : Type 0 where
  pub first : Delay
  pub last : Delay
  pub is : r ≡ Some (record { first = first; last = last })

-- by rule 1 a lookup passes no segment that a later date needs
from-reaches : (rule : ℕ) → eqb rule 2 ≡ false → (l : List DelaySegment) (s e : ℕ) → s ≤ e → Reaches rule e l → Reaches rule e (from_date rule l s)
unfolding Reaches from_date
from-reaches rule one [] s e h r = r
from-reaches rule one (d ∷ l) s e h r =
    pick-keeps (λ (k : List DelaySegment). Reaches rule e k) (belongs rule s d (length l)) (d ∷ l) (from_date rule l s)
    (λ c. r)
    (λ c.
    let past : d.end.0 < s = leb-false _ _ (sym (belongs-first rule s d (length l) one) ∙ c) in
    ⊎_elim
    (λ (z : belongs rule e d (length l) ≡ true).
    let by : e ≤ d.end.0 = leb-true _ _ (sym (belongs-first rule e d (length l) one) ∙ z) in
    absurd (omega arith))
    (λ z. from-reaches rule one l s e h z) r)

-- what a lookup finds is there, by either rule
Filled : List DelaySegment → Type 0
Filled [] = ⊥
Filled (d ∷ l) = Unit

from_some : (rule : ℕ) (l : List DelaySegment) (t : ℕ) → Reaches rule t l → Filled (from_date rule l t)
unfolding Reaches from_date Filled
from_some rule [] t r = r
from_some rule (d ∷ l) t r =
    pick-keeps Filled (belongs rule t d (length l)) (d ∷ l) (from_date rule l t)
    (λ c. tt)
    (λ c. ⊎_elim (λ z. absurd (no_both z c)) (λ z. from_some rule l t z) r)

heads-find : (l k : List DelaySegment) → Filled l → Filled k → Finds (heads l k)
unfolding Filled
heads-find [] k h r = absurd h
heads-find (a ∷ l) [] h r = absurd r
heads-find (a ∷ l) (b ∷ k) h r = record { first = a.delay; last = b.delay; is = refl }

pub delays-find : (rule : ℕ) (l : List DelaySegment) (s e : ℕ) → s ≤ e → Reaches rule s l → Reaches rule e l → Finds (delays_of rule l s e)
unfolding delays_of
delays-find rule l s e h p q =
    heads-find (from_date rule l s) (from_date rule (pick (eqb rule 2) l (from_date rule l s)) e)
    (from_some rule l s p)
    (from_some rule _ e
    (pick-keeps (λ (k : List DelaySegment). Reaches rule e k) (eqb rule 2) l (from_date rule l s) (λ c. q) (λ c. from-reaches rule c l s e h q)))

from-short : (rule : ℕ) (l : List DelaySegment) (t : ℕ) → AllShort l → AllShort (from_date rule l t)
unfolding AllShort from_date
from-short rule [] t h = tt
from-short rule (d ∷ l) t h =
    pick-keeps (λ (k : List DelaySegment). AllShort k) (belongs rule t d (length l)) (d ∷ l) (from_date rule l t) (λ c. h) (λ c. from-short rule l t h.1)

heads-short : (l k : List DelaySegment) → AllShort l → AllShort k → Short (heads l k)
unfolding AllShort
heads-short [] k h r = tt
heads-short (a ∷ l) [] h r = tt
heads-short (a ∷ l) (b ∷ k) h r = (h.0, r.0)

pub delays-short : (rule : ℕ) (l : List DelaySegment) (s e : ℕ) → AllShort l → Short (delays_of rule l s e)
unfolding delays_of
delays-short rule l s e h =
    let at = from-short rule l s h in
    heads-short (from_date rule l s) (from_date rule (pick (eqb rule 2) l (from_date rule l s)) e) at
    (from-short rule _ e (pick-keeps (λ (k : List DelaySegment). AllShort k) (eqb rule 2) l (from_date rule l s) (λ c. h) (λ c. at)))

-- The answer to each outcome of the lookups.
module _ (d : Option Delays) (a b : Delay) (e : d ≡ Some (record { first = a; last = b })) where
  pub short-both : Short d → (a.0 ≤ delay_max) × (b.0 ≤ delay_max)
  short-both h = rw e at h

  pub answer-of : (send : Interval) (p q : ℕ) → p ≡ send.start.0 + a.0 → q ≡ send.end.0 + b.0
      → ◌≡◌ {A = Offer} (record { number = 0; dates = record { send = send; recv = interval p q } }) (answer_of send.start.0 send.end.0 d)
  answer-of send p q h k = rw (e, h, k)

pub answer-none : (d : Option Delays) (s e : ℕ) → d ≡ None → refused 8 ≡ answer_of s e d
answer-none d s e h = rw h
