-- The array after the moves and the writes: the touched elements, each changed, between one part before them and one after, where there are such.
use Prim.Native.Nat.{ℕ, zero, suc, ◌+◌, ◌<◌, ◌≤◌}
use mathlib.Core.Path.{◌≡◌, refl, sym, ap, ◌∙◌}
use mathlib.Core.List.{List, [], ◌∷◌, ◌++◌, map, append_assoc}
use mathlib.Core.Logic.{⊎_elim, ◌⊎◌}
use native.Mathlib.Omega.{arith}
use lib.ListN.{length, take, drop, set, length-take, length-drop, length-append, length-map}
use lib.Seq.{set_at, take-take, take-add, take-append-le, drop_at, length-take-le}
use Rattle.bookings.proofs.Moved.{moved_list}

-- a write where h is 1
abbrev pub Stored : {A : Type 0} → ℕ → List A → ℕ → A → List A → Type 0
Stored h l i x out = ((h ≡ 1) × (out ≡ set l i x)) ⊎ ((h ≡ 1 → ⊥) × (out ≡ l))

-- over the only element of o
store-one : {A : Type 0} (p o q : List A) (x : A) (h i : ℕ) → h ≤ 1 → length o ≡ h → length p ≡ i → (out : List A) → Stored h (p ++ (o ++ q)) i x out
    → out ≡ p ++ (take h (x ∷ []) ++ q)
store-one p [] q x zero i few len at out w = ⊎_elim (λ z. absurd (omega (arith, z.0))) (λ z. z.1) w
store-one p (y ∷ o) q x zero i few len at out w = absurd (omega arith)
store-one p [] q x (suc zero) i few len at out w = absurd (omega arith)
store-one p (y ∷ []) q x (suc zero) i few len at out w = ⊎_elim (λ z. z.1 ∙ set_at p y q x i at) (λ z. absurd (z.0 refl)) w
store-one p (y ∷ y' ∷ o) q x (suc zero) i few len at out w = absurd (omega arith)
store-one p o q x (suc (suc h)) i few len at out w = absurd (omega arith)

module _ {A : Type 0} (f : A → A) (l : List A) (n a b h k : ℕ) (few : h ≤ 1) (less : k ≤ 1) (lt : a < b) (le : b ≤ n) (fits : n + (h + k) ≤ length l) where
  -- those from b on, and what is past the places that they come to
  abbrev rest : List A
  rest = drop b (take n l) ++ drop (n + (h + k)) l

  -- those from b on are moved up
  abbrev shifted : List A
  shifted = take (b + (h + k)) l ++ rest

  shifted-is : shifted ≡ take (b + h) l ++ (take k (drop (b + h) l) ++ rest)
  shifted-is =
      let e : b + (h + k) ≡ b + h + k = omega arith in
      ap (λ (m : List A). m ++ rest) (ap (λ (i : ℕ). take i l) e ∙ take-add (b + h) k l) ∙ append_assoc (take (b + h) l) (take k (drop (b + h) l)) rest

  front_length : length (take (b + h) l) ≡ b + h
  front_length = length-take-le (b + h) l (omega arith)

  shifted-take : (i : ℕ) → i ≤ b + h → take i shifted ≡ take i l
  shifted-take i m =
      ap (take i) shifted-is ∙ take-append-le i (take (b + h) l) (take k (drop (b + h) l) ++ rest) (omega (arith, front_length)) ∙ take-take i (b + h) l m

  shifted-drop : drop (b + h) shifted ≡ take k (drop (b + h) l) ++ rest
  shifted-drop = ap (drop (b + h)) shifted-is ∙ drop_at (take (b + h) l) (take k (drop (b + h) l) ++ rest) (b + h) front_length

  -- the touched ones
  abbrev sent : List A
  sent = map f (drop a (take b l))

  -- then they are too
  set_is : moved_list f shifted b h a ≡ (take (a + h) l ++ sent) ++ (take k (drop (b + h) l) ++ rest)
  set_is =
      ap (λ (m : List A). m ++ (map f (drop a (take b shifted)) ++ drop (b + h) shifted)) (shifted-take (a + h) (omega arith))
      ∙ ap (λ (m : List A). take (a + h) l ++ (map f (drop a m) ++ drop (b + h) shifted)) (shifted-take b (omega arith))
      ∙ ap (λ (m : List A). take (a + h) l ++ (sent ++ m)) shifted-drop
      ∙ sym (append_assoc (take (a + h) l) sent (take k (drop (b + h) l) ++ rest))

  -- the two parts
  module _ (x y : A) (one two three four : List A) (w-shift : one ≡ shifted) (w-set : two ≡ moved_list f one b h a)
      (w-after : Stored k two (b + h) y three) (w-before : Stored h three a x four) where
    abbrev after : List A
    after = take k (y ∷ []) ++ rest

    two_is : two ≡ (take (a + h) l ++ sent) ++ (take k (drop (b + h) l) ++ rest)
    two_is = w-set ∙ ap (λ (m : List A). moved_list f m b h a) w-shift ∙ set_is

    three-is : three ≡ (take (a + h) l ++ sent) ++ after
    three-is =
        let len : length (take (a + h) l ++ sent) ≡ b + h = simp (length-append, length-map, length-take, length-drop) (omega arith) in
        let gap : length (take k (drop (b + h) l)) ≡ k = simp (length-take, length-drop) (omega arith) in
        store-one (take (a + h) l ++ sent) (take k (drop (b + h) l)) rest y k (b + h) less gap len three (rw (← two_is) w-after)

    open_is : three ≡ take a l ++ (take h (drop a l) ++ (sent ++ after))
    open_is =
        three-is
        ∙ ap (λ (m : List A). (m ++ sent) ++ after) (take-add a h l)
        ∙ rw (append_assoc, append_assoc)

    pub laid : four ≡ take a l ++ (take h (x ∷ []) ++ (sent ++ after))
    laid =
        let gap : length (take h (drop a l)) ≡ h = simp (length-take, length-drop) (omega arith) in
        store-one (take a l) (take h (drop a l)) (sent ++ after) x h a few gap (length-take-le a l (omega arith)) four (rw (← open_is) w-before)
