-- A list whose elements at places a to b are moved up by so many places, each changed on the way, from the last down: what a turn does.
use Prim.Native.Nat.{ℕ, suc, ◌+◌, ◌<◌, ◌≤◌}
use mathlib.Core.Path.{◌≡◌, refl, sym, ap, ◌∙◌}
use mathlib.Core.List.{List, [], ◌∷◌, ◌++◌, map, append_assoc}
use native.Mathlib.Omega.{arith}
use lib.ListN.{length, take, drop, get_or, set, length-take, take-append-drop, drop_of_length-le, get_or-append}
use lib.Seq.{take-suc, set_at, get_or-take, length-take-le}
use Rattle.units.proofs.Loop.{at_place}

-- those from j on are moved: what is before stays, and what is past the last place that they come to
abbrev pub moved_list : {A : Type 0} → (A → A) → List A → ℕ → ℕ → ℕ → List A
moved_list f l b by j = take (j + by) l ++ (map f (drop j (take b l)) ++ drop (b + by) l)

-- the array of the loop that stands at j
pub record Moved {A : Type 0} (f : A → A) (l : List A) (a b by : ℕ) (now : List A) (j : ℕ) : Type 0 where
  pub low : a ≤ j
  pub high : j ≤ b
  pub is : now ≡ moved_list f l b by j

module _ {A : Type 0} (f : A → A) (l : List A) (a b by : ℕ) (z : A) (fits : b + by ≤ length l) where
  pub move-first : a ≤ b → Moved f l a b by l b
  move-first h =
      let len : length (take b l) ≤ b = simp length-take (omega arith) in
      record { low = h; high = omega arith; is = rw (drop_of_length-le (take b l) len) (sym (take-append-drop (b + by) l)) }

  move-get : (k : ℕ) → k < b → get_or (moved_list f l b by (k + 1)) k z ≡ get_or l k z
  move-get k h =
      let len : k < length (take (k + 1 + by) l) = simp length-take (omega arith) in
      let lt : k < k + 1 + by = omega arith in
      get_or-append (take (k + 1 + by) l) _ z k len ∙ get_or-take (k + 1 + by) l k z lt

  move-set : (k : ℕ) → k < b → set (moved_list f l b by (k + 1)) (k + by) (f (get_or l k z)) ≡ moved_list f l b by k
  move-set k h =
      let len : length (take (k + by) l) ≡ k + by = length-take-le (k + by) l (omega arith) in
      let lt : k + by < length l = omega arith in
      let q : k + 1 + by ≡ suc (k + by) = omega arith in
      let rest = map f (drop (k + 1) (take b l)) ++ drop (b + by) l in
      rw (q, take-suc l (k + by) z lt, append_assoc)
      (set_at (take (k + by) l) (get_or l (k + by) z) rest (f (get_or l k z)) (k + by) len
      ∙ ap (λ (m : List A). take (k + by) l ++ (map f m ++ drop (b + by) l)) (sym (at_place l b k z (omega arith) h)))

  module _ (now : List A) (j : ℕ) (q : Moved f l a b by now j) where
    -- a turn as the code has it: x is stored for the element g at place k
    pub move-turn : (k : ℕ) (g x : A) (next : List A) → a < j → k + 1 ≡ j → g ≡ get_or now k z → x ≡ f g → next ≡ set now (k + by) x
        → Moved f l a b by next k
    move-turn k g x next h e is made put =
        let lt : k < b = omega (arith, q.high) in
        let old : g ≡ get_or l k z = is ∙ ap (λ (m : List A). get_or m k z) q.is ∙ ap (λ (i : ℕ). get_or (moved_list f l b by i) k z) (sym e) ∙ move-get k lt in
        record {
          low = omega arith;
          high = omega arith;
          is = put
              ∙ ap (λ (y : A). set now (k + by) y) (made ∙ ap f old)
              ∙ ap (λ (m : List A). set m (k + by) (f (get_or l k z))) (q.is ∙ ap (λ (i : ℕ). moved_list f l b by i) (sym e))
              ∙ move-set k lt;
        }

    pub move-last : j ≤ a → now ≡ moved_list f l b by a
    move-last h = let e : j ≡ a = omega (arith, q.low) in q.is ∙ ap (λ (i : ℕ). moved_list f l b by i) e

map_same : {A : Type 0} (l : List A) → map (λ (x : A). x) l ≡ l
map_same [] = refl
map_same (a ∷ l) = ap (λ (k : List _). a ∷ k) (map_same l)

-- moved and not changed
pub shift-last : {A : Type 0} (l : List A) (a b by : ℕ) (z : A) (fits : b + by ≤ length l) (now : List A) (j : ℕ) → Moved (λ (x : A). x) l a b by now j → j ≤ a
    → now ≡ take (a + by) l ++ (drop a (take b l) ++ drop (b + by) l)
shift-last l a b by z fits now j q h =
    move-last (λ x. x) l a b by z fits now j q h
    ∙ ap (λ (k : List _). take (a + by) l ++ (k ++ drop (b + by) l)) (map_same (drop a (take b l)))
