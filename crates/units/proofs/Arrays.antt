-- Laws of lists in arrays: `padded` is filled by one store a turn, holds its list in front and the unused value behind it.
use Prim.Native.Nat.{ℕ, zero, suc, ◌+◌, ◌-◌, ◌<◌, ◌≤◌}
use mathlib.Core.Bool.{Bool, true}
use mathlib.Core.Path.{◌≡◌, refl, sym, ap, ◌∙◌}
use mathlib.Core.List.{List, [], ◌∷◌, ◌++◌, map}
use native.Mathlib.Nat.{sub-zero}
use native.Mathlib.Numerals.{add-one}
use native.Mathlib.Omega.{arith}
use lib.ListN.{length, take, drop, get_or, set, replicate, length-append, length-replicate, length-map, get_or-map}
use lib.Seq.{set_at, append_snoc, take_at, drop_at, take-suc, length-take-le}
use Rattle.units.specs.Logic.{all_of}
use Rattle.units.specs.Arrays.{padded}
use Rattle.units.proofs.Logic.{all_go, all_none}

pub take-map : {A B : Type 0} (f : A → B) (n : ℕ) (l : List A) → take n (map f l) ≡ map f (take n l)
take-map f zero l = refl
take-map f (suc n) [] = refl
take-map f (suc n) (a ∷ l) = ap (λ (k : List _). f a ∷ k) (take-map f n l)

pub all_replicate : {A : Type 0} (p : A → Bool) (n : ℕ) (z : A) → p z ≡ true → all_of p (replicate n z) ≡ true
all_replicate p zero z e = all_none p
all_replicate p (suc n) z e = all_go p z (replicate n z) e ∙ all_replicate p n z e

module _ {A : Type 0} (m : ℕ) (z : A) where
  pub padded-none : replicate m z ≡ padded m z []
  unfolding padded
  padded-none = rw (sub-zero m)

  pub length-padded : (l : List A) → length l ≤ m → length (padded m z l) ≡ m
  unfolding padded
  length-padded l h = simp (length-append, length-replicate) (omega arith)

  pub take-padded : (l : List A) (n : ℕ) → length l ≡ n → take n (padded m z l) ≡ l
  unfolding padded
  take-padded l n e = take_at l _ n e

  pub drop-padded : (l : List A) (n : ℕ) → length l ≡ n → drop n (padded m z l) ≡ replicate (m - n) z
  unfolding padded
  drop-padded l n e = drop_at l _ n e ∙ ap (λ (k : ℕ). replicate (m - k) z) e

  -- the places past the list are unused
  pub unused-padded : (p : A → Bool) (l : List A) (n : ℕ) → length l ≡ n → p z ≡ true → all_of p (drop n (padded m z l)) ≡ true
  unused-padded p l n e h = ap (all_of p) (drop-padded l n e) ∙ all_replicate p (m - n) z h

  -- a store at the first place past the list
  pub padded-store : (l : List A) (a : A) (n : ℕ) → length l ≡ n → n < m → set (padded m z l) n a ≡ padded m z (l ++ (a ∷ []))
  unfolding padded
  padded-store l a n e h =
      let more : m - length l ≡ suc (m - length (l ++ (a ∷ []))) = simp length-append (omega arith) in
      rw more (set_at l z (replicate (m - length (l ++ (a ∷ []))) z) a n e ∙ sym (append_snoc l a _))

  -- a turn of a loop that copies the places in order
  pub padded-turn : (l : List A) (i : ℕ) (d : A) → i < m → i < length l → set (padded m z (take i l)) i (get_or l i d) ≡ padded m z (take (i + 1) l)
  padded-turn l i d h k =
      padded-store (take i l) (get_or l i d) i (length-take-le i l (omega arith)) h
      ∙ ap (padded m z) (sym (ap (λ (n : ℕ). take n l) (add-one i) ∙ take-suc l i d k))

-- and one that stores f of each
pub padded-turn-map : {A B : Type 0} (m : ℕ) (z : B) (f : A → B) (l : List A) (i : ℕ) (d : A) → i < m → i < length l
    → set (padded m z (map f (take i l))) i (f (get_or l i d)) ≡ padded m z (map f (take (i + 1) l))
padded-turn-map m z f l i d h k =
    let len : i < length (map f l) = simp length-map (omega arith) in
    rw (← take-map f i l, ← take-map f (i + 1) l, ← get_or-map f l i d) (padded-turn m z (map f l) i (f d) h len)
