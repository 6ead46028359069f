-- The end search, case by case: what it answers, and what an answer tells.
use Prim.Native.Nat.{ℕ, ◌+◌, ◌-◌, ◌<◌, ◌≤◌}
use mathlib.Core.Bool.{true, false}
use mathlib.Core.Path.{◌≡◌, ◌∙◌, ap, sym}
use native.Mathlib.Omega.{arith}
use borrow.Author.Tests.{leb-true, ltb-true, le-leb, lt-leb, lt-ltb, le-ltb}
use lib.Dec.{leb, ltb}
use lib.IntN.{ℤ, pos}
use lib.Signed.{lt_z}
use Rattle.units.specs.declared.Date.{Date}
use Rattle.units.specs.Logic.{both}
use Rattle.units.proofs.Logic.{both-fst, both-snd, both_yes, both-stop, both-not, unless-go, unless-stop, unless-keeps, pick-keeps}
use Rattle.std.specs.Prelude.{Option, Some, None}
use Rattle.poly.specs.Search.{area_from, halve_of, find_end}

module _ (cap : ℕ → ℤ) (a b x v : ℕ) where
  -- the end that is halved to
  abbrev pub halved : ℕ
  halved = halve_of (b + 1 - x) (area_from cap (cap x)) (pos v) x (b + 1)

  pub find-early : x < a → find_end cap a b x v ≡ None
  unfolding find_end
  find-early h = unless-stop _ _ _ (both-stop _ _ (lt-leb a x h))

  pub find-late : b ≤ x → find_end cap a b x v ≡ None
  unfolding find_end
  find-late h = unless-stop _ _ _ (both-not _ _ (le-ltb x b h))

  module _ (from : a ≤ x) (lt : x < b) where
    inside : both (leb a x) (ltb x b) ≡ true
    inside = both_yes _ _ (le-leb a x from) (lt-ltb x b lt)

    pub find-short : lt_z (area_from cap (cap x) b) (pos v) ≡ true → find_end cap a b x v ≡ None
    unfolding find_end
    find-short e = unless-go _ _ _ inside ∙ rw e

    pub find-found : lt_z (area_from cap (cap x) b) (pos v) ≡ false → (e : Date) → e.0 ≡ halved → Some e ≡ find_end cap a b x v
    unfolding find_end
    find-found s e is = ap (λ (n : ℕ). Some (record { 0 = n })) is ∙ sym (unless-go _ _ _ inside ∙ rw s)

  -- what an end tells
  pub record Found (e : Date) : Type 0 where
    pub from : a ≤ x
    pub some : x < b
    pub enough : lt_z (area_from cap (cap x) b) (pos v) ≡ false
    pub is : e.0 ≡ halved

  never : {X : Type 0} (e : Date) → ◌≡◌ {A = Option Date} None (Some e) → X
  never e h = let z : ◌≡◌ {A = ℕ} 0 1 = cc in absurd (omega arith)

  pub found : (e : Date) → find_end cap a b x v ≡ Some e → Found e
  unfolding find_end
  found e =
      unless-keeps (λ (r : Option Date). r ≡ Some e → Found e) (both (leb a x) (ltb x b)) None _
      (λ t h. never e h)
      (λ t. pick-keeps (λ (r : Option Date). r ≡ Some e → Found e) (lt_z (area_from cap (cap x) b) (pos v)) None _
      (λ s h. never e h)
      (λ s h.
      let d : ◌≡◌ {A = Date} e (record { 0 = halved }) = cc in
      record { from = leb-true _ _ (both-fst _ _ t); some = ltb-true _ _ (both-snd _ _ t); enough = s; is = ap (λ (d : Date). d.0) d }))
