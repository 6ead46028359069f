-- What calls of the library tell, in the words of the definitions.
use Prim.Native.Nat.{ℕ, suc, ◌-◌, ◌<◌}
use mathlib.Core.Bool.{Bool, true, false, ◌&&◌}
use mathlib.Core.Logic.{◌⊎◌, ⊎_elim}
use mathlib.Core.Path.{◌≡◌, refl, sym, ap, ◌∙◌}
use mathlib.Core.List.{List, [], ◌∷◌, ◌++◌}
use native.Mathlib.Omega.{arith}
use lib.ListN.{length, take, drop, get_or, replicate, length-drop}
use Rattle.std.proofs.Common.{Bor, Option, Some, None, option_map}
use Rattle.std.specs.List.{list_all}
use Rattle.std.specs.Option.{MatchOption}
use Rattle.std.specs.Bool.{then_some}
use Rattle.std.specs.Array.{AllOfLen}
use Rattle.std.proofs.lemmas.List.{drop-replicate}
use Rattle.std.proofs.Math.Seq.{take-length}
use Rattle.units.specs.Limits.{segments_max}
use Rattle.units.specs.Logic.{both, all_of}
use Rattle.units.specs.Arrays.{padded}
use Rattle.units.proofs.Counted.{counted, counted_none, counted-many}

-- a count that is not 1 to 16
pub not-counted : (n : ℕ) (q : Bool) → (n < 1) ⊎ (segments_max < n) → counted segments_max n q ≡ false
not-counted n q h =
    ⊎_elim (λ (few : n < 1). counted_none segments_max n q few) (λ (many : segments_max < n). counted-many segments_max n q (omega arith) many) h

and-both : (x y : Bool) → x && y ≡ both x y
unfolding both
and-both true y = refl
and-both false y = refl

-- `all`
pub list-all : {A : Type 0} (p : A → Bool) (l : List A) → list_all p l ≡ all_of p l
unfolding all_of both
list-all p [] = refl
list-all p (a ∷ l) = rw (list-all p l) (and-both (p a) (all_of p l))

-- `then_some`: an answer where a test holds
pub some-if : {X : Type 0} (F : X → Type 0) (b q : Bool) (x : X) → b ≡ q → F x → MatchOption (then_some b x) (q ≡ false) (λ y. (q ≡ true) × F y)
some-if F true q x e f = (sym e, f)
some-if F false q x e f = sym e

-- `copy_from_slice` into the first places
pub padded-part : {A : Type 0} (m : ℕ) (z : A) (l : List A) → l ++ drop (length l) (replicate m z) ≡ padded m z l
unfolding padded
padded-part m z l = rw (drop-replicate (length l) m z)

all-same : {A : Type 0} (z : A) (l : List A) → ((i : ℕ) → i < length l → get_or l i z ≡ z) → l ≡ replicate (length l) z
all-same z [] h = refl
all-same z (x ∷ l) h =
    ap (λ (y : _). y ∷ l) (h 0 (omega arith)) ∙ ap (λ (k : List _). z ∷ k) (all-same z l (λ i lt. h (suc i) (omega arith)))

-- an array of defaults, of which there is one
pub array-of : {A : Type 0} (P : A → Type 0) (z : A) (m : ℕ) (l : List A) → ((x : A) → P x → x ≡ z) → AllOfLen P l m → l ≡ replicate m z
array-of P z m l only h =
    all-same z l (λ i lt. only _ (h.at i z (omega (arith, h.long)))) ∙ ap (λ (n : ℕ). replicate n z) h.long

-- the places from n on, as a range to the end of the array lends them
pub rest-whole : {A : Type 0} (n : ℕ) (l : List A) → take (length l - n) (drop n l) ≡ drop n l
rest-whole n l = ap (λ (k : ℕ). take k (drop n l)) (sym (length-drop n l)) ∙ take-length (drop n l)

-- and where it has m places
pub rest-of : {A : Type 0} (m n : ℕ) (l : List A) → length l ≡ m → take (m - n) (drop n l) ≡ drop n l
rest-of m n l h = ap (λ (k : ℕ). take (k - n) (drop n l)) (sym h) ∙ rest-whole n l

-- lists that are lent back by a promise which tells whether and which
pub lent-once : {A : Type 0} (No : Type 0) (Is : Bor (List A) → Type 0) → ((l : Bor (List A)) → No → Is l → ⊥) → ((l k : Bor (List A)) → Is l → Is k → l.now ≡ k.now)
    → (r q : Option (Bor (List A))) → MatchOption r No Is → MatchOption q No Is → option_map (λ l. l.now) r ≡ option_map (λ l. l.now) q
lent-once No Is apart same None None f g = refl
lent-once No Is apart same None (Some k) f g = absurd (apart k f g)
lent-once No Is apart same (Some l) None f g = absurd (apart l g f)
lent-once No Is apart same (Some l) (Some k) f g = ap Some (same l k f g)
