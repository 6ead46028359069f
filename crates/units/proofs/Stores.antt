-- A turn that lays one to three elements after a list in its array, by three stores and no branch.
use Prim.Native.Nat.{ℕ, zero, suc, ◌+◌, ◌<◌, ◌≤◌}
use mathlib.Core.Path.{◌≡◌, refl, sym, ap, ◌∙◌}
use mathlib.Core.List.{List, [], ◌∷◌, ◌++◌, append_assoc, append-nil}
use native.Mathlib.Nat.{add-zero}
use native.Mathlib.Omega.{arith}
use lib.ListN.{length, take, set, length-take, length-append}
use lib.Seq.{set_at}
use Rattle.units.specs.Arrays.{padded}
use Rattle.units.proofs.Arrays.{padded-store}

module _ {A : Type 0} (n : ℕ) (z : A) where
  -- a store at the last place used
  store-last : (m : ℕ) (d : List A) (x y : A) → length d ≡ m → set (padded n z (d ++ (y ∷ []))) m x ≡ padded n z (d ++ (x ∷ []))
  unfolding padded
  store-last m d x y h =
      let q : length (d ++ (y ∷ [])) ≡ length (d ++ (x ∷ [])) = rw (length-append, length-append) refl in
      rw q (ap (λ (l : List A). set l m x) (append_assoc d (y ∷ []) _) ∙ set_at d y _ x m h ∙ sym (append_assoc d (x ∷ []) _))

  -- the first and the middle: the first stays where b is 1
  store-middle : (m b : ℕ) (d : List A) (x y : A) → b ≤ 1 → length d ≡ m → m + b < n
      → set (set (padded n z d) m x) (m + b) y ≡ padded n z ((d ++ take b (x ∷ [])) ++ (y ∷ []))
  store-middle m zero d x y f h k =
      rw (add-zero, append-nil) (ap (λ (l : List A). set l m y) (padded-store n z d x m h (omega arith)) ∙ store-last m d y x h)
  store-middle m (suc zero) d x y f h k =
      ap (λ (l : List A). set l (m + 1) y) (padded-store n z d x m h (omega arith))
      ∙ padded-store n z (d ++ (x ∷ [])) y (m + 1) (length-append d (x ∷ []) ∙ omega arith) k
  store-middle m (suc (suc b)) d x y f h k = absurd (omega arith)

  -- the last, which is the middle again where there is none
  store-after : (m a : ℕ) (d : List A) (y w : A) → a ≤ 1 → (a ≡ 0 → w ≡ y) → length d ≡ m → m + a < n
      → set (padded n z (d ++ (y ∷ []))) (m + a) w ≡ padded n z (d ++ (y ∷ take a (w ∷ [])))
  store-after m zero d y w f q h k =
      rw add-zero (store-last m d w y h ∙ ap (λ (x : A). padded n z (d ++ (x ∷ []))) (q refl))
  store-after m (suc zero) d y w f q h k =
      padded-store n z (d ++ (y ∷ [])) w (m + 1) (length-append d (y ∷ []) ∙ omega arith) k
      ∙ ap (λ (l : List A). padded n z l) (append_assoc d (y ∷ []) (w ∷ []))
  store-after m (suc (suc a)) d y w f q h k = absurd (omega arith)

  pub store-three : (m b a : ℕ) (d : List A) (x y w : A) → b ≤ 1 → a ≤ 1 → (a ≡ 0 → w ≡ y) → length d ≡ m → m + b + a < n
      → set (set (set (padded n z d) m x) (m + b) y) (m + b + a) w ≡ padded n z (d ++ (take b (x ∷ []) ++ (y ∷ take a (w ∷ []))))
  store-three m b a d x y w f g q h k =
      let len : length (d ++ take b (x ∷ [])) ≡ m + b = simp (length-append, length-take) (omega arith) in
      ap (λ (l : List A). set l (m + b + a) w) (store-middle m b d x y f h (omega arith))
      ∙ store-after (m + b) a (d ++ take b (x ∷ [])) y w g q len k
      ∙ ap (λ (l : List A). padded n z l) (append_assoc d (take b (x ∷ [])) (y ∷ take a (w ∷ [])))
