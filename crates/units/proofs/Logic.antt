-- Laws of the tests' words: what `both` and `all_of` are where a part is known, and what they tell.
use Prim.Native.Nat.{ℕ}
use mathlib.Core.Bool.{Bool, true, false}
use mathlib.Core.Path.{◌≡◌, refl, sym, ap, ◌∙◌}
use mathlib.Core.List.{List, [], ◌∷◌}
use native.Mathlib.Omega.{arith}
use Rattle.units.specs.Logic.{both, unless, pick, all_of}

-- true is not false
pub no_both : {b : Bool} → b ≡ true → b ≡ false → ⊥
no_both h k = let z : ◌≡◌ {A = ℕ} 0 1 = cc in omega arith

pub both_go : (p q : Bool) → p ≡ true → both p q ≡ q
unfolding both
both_go p q e = ap (λ (b : Bool). both b q) e

pub both-stop : (p q : Bool) → p ≡ false → both p q ≡ false
unfolding both
both-stop p q e = ap (λ (b : Bool). both b q) e

pub both-fst : (p q : Bool) → both p q ≡ true → p ≡ true
unfolding both
both-fst true q e = refl
both-fst false q e = e

pub both-snd : (p q : Bool) → both p q ≡ true → q ≡ true
unfolding both
both-snd true q e = e
both-snd false q e = absurd (no_both e refl)

pub both_yes : (p q : Bool) → p ≡ true → q ≡ true → both p q ≡ true
both_yes p q e f = both_go p q e ∙ f

pub both-not : (p q : Bool) → q ≡ false → both p q ≡ false
unfolding both
both-not true q e = e
both-not false q e = refl

pub both-only : (p q : Bool) → q ≡ true → both p q ≡ p
unfolding both
both-only true q e = e
both-only false q e = refl

-- two tests that tell the same are equal
pub same_test : (p q : Bool) → (p ≡ true → q ≡ true) → (q ≡ true → p ≡ true) → p ≡ q
same_test true q f g = sym (f refl)
same_test false true f g = g refl
same_test false false f g = refl

-- what holds of both ways of a choice
pub pick-keeps : {A : Type 0} (P : A → Type 0) (c : Bool) (x y : A) → (c ≡ true → P x) → (c ≡ false → P y) → P (pick c x y)
pick-keeps P true x y f g = f refl
pick-keeps P false x y f g = g refl

pub unless-keeps : {A : Type 0} (P : A → Type 0) (c : Bool) (x y : A) → (c ≡ false → P x) → (c ≡ true → P y) → P (unless c x y)
unless-keeps P true x y f g = g refl
unless-keeps P false x y f g = f refl

pub unless-go : {A : Type 0} (c : Bool) (x y : A) → c ≡ true → unless c x y ≡ y
unless-go c x y e = rw e

pub unless-stop : {A : Type 0} (c : Bool) (x y : A) → c ≡ false → unless c x y ≡ x
unless-stop c x y e = rw e

-- what turns both ways of a test turns what the test tells
pub unless-turned : {A : Type 0} (t : A → A) (c : Bool) {x y u v : A} → u ≡ t x → v ≡ t y → unless c u v ≡ t (unless c x y)
unless-turned t true e f = f
unless-turned t false e f = e

pub pick-turned : {A : Type 0} (t : A → A) (c : Bool) {x y u v : A} → u ≡ t x → v ≡ t y → pick c u v ≡ t (pick c x y)
pick-turned t true e f = e
pick-turned t false e f = f

module _ {A : Type 0} (p : A → Bool) (a : A) (l : List A) where
  pub all_go : p a ≡ true → all_of p (a ∷ l) ≡ all_of p l
  unfolding all_of
  all_go e = both_go _ _ e

  pub all-stop : p a ≡ false → all_of p (a ∷ l) ≡ false
  unfolding all_of
  all-stop e = both-stop _ _ e

  pub all_head : all_of p (a ∷ l) ≡ true → p a ≡ true
  unfolding all_of
  all_head e = both-fst _ _ e

  pub all_tail : all_of p (a ∷ l) ≡ true → all_of p l ≡ true
  unfolding all_of
  all_tail e = both-snd _ _ e

pub all_none : {A : Type 0} (p : A → Bool) → all_of p [] ≡ true
unfolding all_of
all_none p = refl
