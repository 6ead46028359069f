-- What `iter().all(..)` answers, in this repository's word: the library's lemma has `list_all`, and the definitions have `all_of`.
use mathlib.Core.Bool.{Bool, true, false}
use mathlib.Core.Path.{◌≡◌, refl, ◌∙◌}
use mathlib.Core.List.{List, [], ◌∷◌}
use denote.Param.Members.{Mut}
use Rattle.std.specs.Fn.{Called}
use Rattle.std.specs.Iterator.{YieldsThen}
use Rattle.std.specs.List.{FoldsTo, list_all}
use Rattle.std.specs.Option.{MatchOption}
use Rattle.std.proofs.Common.{Option, ◌&&◌}
use Rattle.std.proofs.lemmas.Iterator.{YieldsList}
use Rattle.std.proofs.lemmas.Iterator.Search.{all_from_yields_List}
use Rattle.units.specs.Logic.{both, all_of}

and_both : (p q : Bool) → (p && q) ≡ both p q
unfolding both
and_both true q = refl
and_both false q = refl

all_listed : {A : Type 0} (p : A → Bool) (l : List A) → list_all p l ≡ all_of p l
unfolding all_of
all_listed p [] = refl
all_listed p (a ∷ l) = rw (all_listed p l) (and_both (p a) (all_of p l))

-- The answer of a goal `c.all.result ≡ all_of test xs.now`, over `xs.iter().all(|x| ..)`:
-- `all-told test _ _ c.all.ensures.ran (YieldsList-from_slice _ cc) (λ x b q k. search (rules, tests))`
pub all-told : {S A B F : Type 0} {steps : S → Option A → S → Type 0} {v : A → B} {g : Mut F (A × Unit {0}) Bool} {s : S} {all : List B}
    (test : B → Bool) (u : S) (f : F) {r : Bool}
    → (xs : List A) × (o : Option A) × (j : F) × YieldsThen steps s xs o u × FoldsTo (λ p x q. Called g p (x, tt) true q) f xs j × MatchOption o (r ≡ true) (λ x. (r ≡ false) × ((h : F) × Called g j (x, tt) false h))
    → YieldsList steps v s all
    → ((x : A) (b : Bool) (q : F) → Called g f (x, tt) b q → (q ≡ f) × (b ≡ test (v x)))
    → r ≡ all_of test all
all-told test u f {r} ran gives tells = all_from_yields_List test u f r ran gives tells ∙ all_listed test _
