-- Laws of a change to each of a list's first k: store by store, its length, what it leaves alone, tests of it, and its undoing.
use Prim.Native.Nat.{ℕ, zero, suc, ◌+◌, ◌-◌, ◌<◌, ◌≤◌}
use mathlib.Core.Bool.{Bool, true}
use mathlib.Core.Path.{◌≡◌, refl, sym, ap, ◌∙◌}
use mathlib.Core.List.{List, [], ◌∷◌, ◌++◌}
use native.Mathlib.Numerals.{add-one}
use native.Mathlib.Omega.{arith}
use lib.ListN.{length, take, drop, get_or, set}
use Rattle.units.specs.Logic.{all_of}
use Rattle.units.proofs.Logic.{all_go, all_none, all_head, all_tail}
use Rattle.units.specs.declared.Volume.{Volume}
use Rattle.legacy.specs.Queueing.{add_to, take_from}

unfoldable pub on_first : {A : Type 0} → (A → A) → ℕ → List A → List A
on_first f zero l = l
on_first f (suc k) [] = []
on_first f (suc k) (a ∷ l) = f a ∷ on_first f k l

abbrev pub more : ℕ → Volume → Volume
more v q = record { 0 = q.0 + v }

abbrev pub less : ℕ → Volume → Volume
less v q = record { 0 = q.0 - v }

-- what is tested of each holds at a place
all_at : {A : Type 0} (p : A → Bool) (z : A) (l : List A) (i : ℕ) → i < length l → all_of p l ≡ true → p (get_or l i z) ≡ true
all_at p z [] i lt t = absurd (omega arith)
all_at p z (a ∷ l) zero lt t = all_head p a l t
all_at p z (a ∷ l) (suc i) lt t = all_at p z l i (omega arith) (all_tail p a l t)

pub add_is : (k v : ℕ) (l : List Volume) → add_to k v l ≡ on_first (more v) k l
unfolding add_to on_first
add_is zero v l = refl
add_is (suc k) v [] = refl
add_is (suc k) v (q ∷ l) = rw (add_is k v l)

pub take-is : (k v : ℕ) (l : List Volume) → take_from k v l ≡ on_first (less v) k l
unfolding take_from on_first
take-is zero v l = refl
take-is (suc k) v [] = refl
take-is (suc k) v (q ∷ l) = rw (take-is k v l)

module _ {A : Type 0} (f : A → A) where
  -- the changed ones, before those that are left alone
  first_parts : (k : ℕ) (l : List A) → on_first f k l ≡ on_first f (length (take k l)) (take k l) ++ drop k l
  unfolding on_first
  first_parts zero l = refl
  first_parts (suc k) [] = refl
  first_parts (suc k) (a ∷ l) = ap (λ (m : List A). f a ∷ m) (first_parts k l)

  pub first-none : (l : List A) → on_first f 0 l ≡ l
  unfolding on_first
  first-none l = refl

  -- the places from k on are left alone
  pub first_past : (k : ℕ) (l : List A) (i : ℕ) (z : A) → k ≤ i → get_or (on_first f k l) i z ≡ get_or l i z
  unfolding on_first
  first_past zero l i z h = refl
  first_past (suc k) [] i z h = refl
  first_past (suc k) (a ∷ l) zero z h = absurd (omega arith)
  first_past (suc k) (a ∷ l) (suc i) z h = first_past k l i z (omega arith)

  pub first-drop : (k : ℕ) (l : List A) (n : ℕ) → k ≤ n → drop n (on_first f k l) ≡ drop n l
  unfolding on_first
  first-drop zero l n h = refl
  first-drop (suc k) [] n h = refl
  first-drop (suc k) (a ∷ l) zero h = absurd (omega arith)
  first-drop (suc k) (a ∷ l) (suc n) h = first-drop k l n (omega arith)

  pub first-length : (k : ℕ) (l : List A) → length (on_first f k l) ≡ length l
  unfolding on_first
  first-length zero l = refl
  first-length (suc k) [] = refl
  first-length (suc k) (a ∷ l) = ap suc (first-length k l)

  -- one place more
  first_next : (i : ℕ) (l : List A) (z : A) → set (on_first f i l) i (f (get_or l i z)) ≡ on_first f (suc i) l
  unfolding on_first
  first_next zero [] z = refl
  first_next zero (a ∷ l) z = refl
  first_next (suc i) [] z = refl
  first_next (suc i) (a ∷ l) z = ap (λ (k : List A). f a ∷ k) (first_next i l z)

  -- a loop that changes the places in order, at place i: what it reads there, what it stores, and its end
  module _ (i : ℕ) (l a : List A) (e : a ≡ on_first f i l) where
    pub first_read : (z : A) → get_or a i z ≡ get_or l i z
    first_read z = rw e (first_past i l i z (omega arith))

    pub first_store : (z : A) → set a i (f (get_or a i z)) ≡ on_first f (i + 1) l
    first_store z = rw (add-one, first_read z, e) (first_next i l z)

    -- what is tested of each holds of what it reads
    pub first_tested : (p : A → Bool) (z : A) → i < length l → all_of p l ≡ true → p (get_or a i z) ≡ true
    first_tested p z lt t = ap p (first_read z) ∙ all_at p z l i lt t

    pub first-end : (n : ℕ) → i ≤ n → n ≤ i → a ≡ on_first f n l
    first-end n h k = let same : i ≡ n = omega arith in e ∙ ap (λ (j : ℕ). on_first f j l) same

  module _ (p q : A → Bool) where
    -- a test of those to be changed, and another that holds of all and is kept
    pub first-all : ((a : A) → p a ≡ true → q a ≡ true → q (f a) ≡ true)
        → (k : ℕ) (l : List A) (n : ℕ) → k ≤ n
        → all_of p (take k l) ≡ true
        → all_of q (take n l) ≡ true
        → all_of q (take n (on_first f k l)) ≡ true
    unfolding on_first
    first-all keeps zero l n h e g = g
    first-all keeps (suc k) [] n h e g = g
    first-all keeps (suc k) (a ∷ l) zero h e g = absurd (omega arith)
    first-all keeps (suc k) (a ∷ l) (suc n) h e g =
        all_go q (f a) _ (keeps a (all_head p a _ e) (all_head q a _ g)) ∙ first-all keeps k l n (omega arith) (all_tail p a _ e) (all_tail q a _ g)

  -- a test that each changed one passes
  pub first_passes : (q : A → Bool) → ((a : A) → q (f a) ≡ true) → (k : ℕ) (l : List A) → all_of q (take k (on_first f k l)) ≡ true
  unfolding on_first
  first_passes q passes zero l = all_none q
  first_passes q passes (suc k) [] = all_none q
  first_passes q passes (suc k) (a ∷ l) = all_go q (f a) _ (passes a) ∙ first_passes q passes k l

-- what is lent as the first k comes back changed
module _ (k v : ℕ) (l given : List Volume) where
  pub add_given : given ≡ add_to (length (take k l)) v (take k l) → given ++ drop k l ≡ add_to k v l
  add_given e = rw (e, add_is, add_is k v l) (sym (first_parts (more v) k l))

  pub take_given : given ≡ take_from (length (take k l)) v (take k l) → given ++ drop k l ≡ take_from k v l
  take_given e = rw (e, take-is, take-is k v l) (sym (first_parts (less v) k l))

-- a change that undoes the other
pub first-undo : {A : Type 0} (f g : A → A) → ((a : A) → g (f a) ≡ a) → (k : ℕ) (l : List A) → on_first g k (on_first f k l) ≡ l
unfolding on_first
first-undo f g u zero l = refl
first-undo f g u (suc k) [] = refl
first-undo f g u (suc k) (a ∷ l) = rw (u a, first-undo f g u k l)
