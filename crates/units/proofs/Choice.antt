-- Laws of a choice between two answers, of an answer's number where a refusal comes first, and of a test that was negated.
use Prim.Native.Nat.{ℕ}
use mathlib.Core.Bool.{Bool, true, false}
use mathlib.Core.Path.{◌≡◌, refl, sym, ◌∙◌}
use lib.Dec.{eqb}
use Rattle.units.specs.Logic.{both, unless, pick}

pub pick_yes : {A : Type 0} (c : Bool) (x y : A) → c ≡ true → pick c x y ≡ x
pick_yes c x y e = rw e

pub pick_no : {A : Type 0} (c : Bool) (x y : A) → c ≡ false → pick c x y ≡ y
pick_no c x y e = rw e

pub both-assoc : (p q r : Bool) → both (both p q) r ≡ both p (both q r)
unfolding both
both-assoc true q r = refl
both-assoc false q r = refl

-- the number is 0 where the test holds and the answer after it has 0
pub done-unless : {A : Type 0} (number : A → ℕ) (p : Bool) (x y : A) → eqb (number x) 0 ≡ false
    → eqb (number (unless p x y)) 0 ≡ both p (eqb (number y) 0)
unfolding both
done-unless number true x y e = refl
done-unless number false x y e = e

-- what a call has told of a test, behind `if !call(..)`
module _ {r t : Bool} (told : r ≡ t) where
  pub told-yes : r ≡ true → t ≡ true
  told-yes e = sym told ∙ e

  pub told-no : r ≡ false → t ≡ false
  told-no e = sym told ∙ e
