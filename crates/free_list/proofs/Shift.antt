-- A list whose elements are moved up by one, from the place n down: what a turn does, and the store at the end.
use Prim.Native.Nat.{ℕ, ◌+◌, ◌-◌, ◌<◌, ◌≤◌}
use mathlib.Core.Path.{◌≡◌, sym, ap, ◌∙◌}
use mathlib.Core.List.{List, ◌++◌, append_assoc}
use native.Mathlib.Numerals.{add-one}
use native.Mathlib.Omega.{arith}
use lib.ListN.{length, take, drop, get_or, set, length-take, take-append-drop, drop_of_length-le, get_or-append}
use lib.Seq.{paste, take-suc, set_at, get_or-take, length-take-le}
use Rattle.std.proofs.lemmas.List.{drop-take}
use Rattle.units.proofs.Loop.{at_place}
use Rattle.free_list.specs.Granted.{insert_of}

-- elements 0 to j as they were, those of j to n moved up by one, those past n as they were
abbrev pub shifted : {A : Type 0} → List A → ℕ → ℕ → List A
shifted l n j = take (j + 1) l ++ (drop j (take n l) ++ drop (n + 1) l)

-- the array of the loop: the elements from j on are moved up
pub record Moved {A : Type 0} (l a : List A) (n i j : ℕ) : Type 0 where
  pub low : i ≤ j
  pub high : j ≤ n
  pub is : a ≡ shifted l n j

module _ {A : Type 0} (l : List A) (n : ℕ) (z : A) (fits : n < length l) where
  shifted-first : l ≡ shifted l n n
  shifted-first =
      let len : length (take n l) ≤ n = simp length-take (omega arith) in
      rw (drop_of_length-le (take n l) len) (sym (take-append-drop (n + 1) l))

  -- a store at j
  shifted-set : (j : ℕ) (a : A) → j ≤ n → set (shifted l n j) j a ≡ insert_of l n j a
  shifted-set j a h =
      let len : length (take j l) ≡ j = length-take-le j l (omega arith) in
      let lt : j < length l = omega arith in
      rw (add-one, take-suc l j z lt, append_assoc)
      (set_at (take j l) (get_or l j z) (drop j (take n l) ++ drop (n + 1) l) a j len)

  shifted-get : (j : ℕ) → j < n → get_or (shifted l n (j + 1)) j z ≡ get_or l j z
  shifted-get j h =
      let len : j < length (take (j + 1 + 1) l) = simp length-take (omega arith) in
      let lt : j < j + 1 + 1 = omega arith in
      get_or-append (take (j + 1 + 1) l) _ z j len ∙ get_or-take (j + 1 + 1) l j z lt

  shifted-turn : (j : ℕ) → j < n → set (shifted l n (j + 1)) (j + 1) (get_or l j z) ≡ shifted l n j
  shifted-turn j h =
      shifted-set (j + 1) (get_or l j z) (omega arith)
      ∙ ap (λ (k : List A). take (j + 1) l ++ (k ++ drop (n + 1) l)) (sym (at_place l n j z (omega arith) h))

  -- the elements from i on copied up by one
  copied-up : (i : ℕ) → i ≤ n → paste l (i + 1) (drop i l) (n - i) ≡ shifted l n i
  copied-up i h =
      let all : i + (n - i) ≡ n = omega arith in
      let part : drop i (take n l) ≡ take (n - i) (drop i l) = ap (λ (m : ℕ). drop i (take m l)) (sym all) ∙ drop-take i (n - i) l in
      let past : i + 1 + (n - i) ≡ n + 1 = omega arith in
      rw (part, past, append_assoc)

  -- and a store at i
  pub copied-set : (i : ℕ) (a : A) → i ≤ n → set (paste l (i + 1) (drop i l) (n - i)) i a ≡ insert_of l n i a
  copied-set i a h = rw (copied-up i h) (shifted-set i a h)

  module _ (i : ℕ) where
    pub moved-first : i ≤ n → Moved l l n i n
    moved-first h = record { low = h; high = omega arith; is = shifted-first }

    -- a turn as the code has it
    pub moved-turn : (a : List A) (k j : ℕ) → j ≡ k + 1 → i < j → Moved l a n i j → Moved l (set a j (get_or a k z)) n i k
    moved-turn a k j q h m =
        record {
          low = omega arith;
          high = omega (arith, m.high);
          is = rw (m.is, q) (ap (λ (x : A). set (shifted l n (k + 1)) (k + 1) x) (shifted-get k (omega (arith, m.high))) ∙ shifted-turn k (omega (arith, m.high)));
        }

    -- the store at the end
    pub moved-last : (a : List A) (j : ℕ) (x : A) → j ≤ i → Moved l a n i j → set a i x ≡ insert_of l n i x
    moved-last a j x h m =
        let e : j ≡ i = omega (arith, m.low) in
        rw (m.is, e) (shifted-set i x (omega (arith, m.low, m.high)))
