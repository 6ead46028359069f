-- Equations between sums, differences and products of integers, proved by computing: both sides are the same polynomial in the letters.
use Prim.Native.Nat.{ℕ, zero, suc, ◌+◌}
use mathlib.Core.List.{List, [], ◌∷◌, map}
use mathlib.Core.Path.{◌≡◌, refl, sym, ap, ◌∙◌}
use native.Mathlib.Omega.{arith}
use lib.ListN.{get_or}
use lib.IntN.{ℤ, pos, negsuc, nat_abs, ◌+ℤ◌, ◌-ℤ◌, ◌*ℤ◌, +ℤ_idl, +ℤ_idr, +ℤ_comm, -ℤ-+ℤ_cancel, zero-*ℤ, suc_ℤ-*ℤ, pred_ℤ-*ℤ, *ℤ-zero}
use Rattle.poly.proofs.Ring.{sum-times, times-sum, times-times, times-swap, steps-add}

-- a polynomial in a list of letters: what stands at each power of the first letter, from power 0 up, is one in the other letters
abbrev Polynomial : List ℤ → Type 0
Polynomial [] = ℤ
Polynomial (x ∷ ls) = List (Polynomial ls)

abbrev value : (ls : List ℤ) → Polynomial ls → ℤ
value [] k = k
value (x ∷ ls) [] = pos 0
value (x ∷ ls) (a ∷ p) = value (x ∷ ls) p *ℤ x +ℤ value ls a

-- the absolute values of all its numbers together: where they are 0, so is the value
abbrev pub size : (ls : List ℤ) → Polynomial ls → ℕ
size [] k = nat_abs k
size (x ∷ ls) [] = 0
size (x ∷ ls) (a ∷ p) = size ls a + size (x ∷ ls) p

value_none : (ls : List ℤ) (p : Polynomial ls) → size ls p ≡ 0 → value ls p ≡ pos 0
value_none [] (pos n) h = ap pos h
value_none [] (negsuc n) h = absurd (omega (arith, h))
value_none (x ∷ ls) [] h = refl
value_none (x ∷ ls) (a ∷ p) h =
    rw (value_none ls a (omega (arith, h)), value_none (x ∷ ls) p (omega (arith, h)), zero-*ℤ x)

-- a number
abbrev number : (ls : List ℤ) → ℤ → Polynomial ls
number [] k = k
number (x ∷ ls) k = number ls k ∷ []

value-number : (ls : List ℤ) (k : ℤ) → value ls (number ls k) ≡ k
value-number [] k = refl
value-number (x ∷ ls) k = rw (zero-*ℤ x, value-number ls k) (+ℤ_idl k)

-- the letter at a place of the list
abbrev letter : (ls : List ℤ) → ℕ → Polynomial ls
letter [] i = pos 0
letter (x ∷ ls) zero = number ls (pos 0) ∷ number ls (pos 1) ∷ []
letter (x ∷ ls) (suc i) = letter ls i ∷ []

value-letter : (ls : List ℤ) (i : ℕ) → value ls (letter ls i) ≡ get_or ls i (pos 0)
value-letter [] i = refl
value-letter (x ∷ ls) zero =
    rw (value-number ls (pos 1), value-number ls (pos 0), zero-*ℤ x, +ℤ_idr (pos 1 *ℤ x)) (suc_ℤ-*ℤ (pos 0) x ∙ rw (zero-*ℤ x) (+ℤ_idl x))
value-letter (x ∷ ls) (suc i) = rw (zero-*ℤ x, value-letter ls i) (+ℤ_idl (get_or ls i (pos 0)))

abbrev plus : (ls : List ℤ) → Polynomial ls → Polynomial ls → Polynomial ls
plus [] a b = a +ℤ b
plus (x ∷ ls) [] q = q
plus (x ∷ ls) (a ∷ p) [] = a ∷ p
plus (x ∷ ls) (a ∷ p) (b ∷ q) = plus ls a b ∷ plus (x ∷ ls) p q

value-plus : (ls : List ℤ) (p q : Polynomial ls) → value ls (plus ls p q) ≡ value ls p +ℤ value ls q
value-plus [] a b = refl
value-plus (x ∷ ls) [] q = sym (+ℤ_idl (value (x ∷ ls) q))
value-plus (x ∷ ls) (a ∷ p) [] = sym (+ℤ_idr (value (x ∷ ls) (a ∷ p)))
value-plus (x ∷ ls) (a ∷ p) (b ∷ q) =
    rw (value-plus ls a b, value-plus (x ∷ ls) p q) (sym (steps-add (value (x ∷ ls) p) (value ls a) (value (x ∷ ls) q) (value ls b) x))

-- the first polynomial's coefficient of each power times the second polynomial, moved up by that power
abbrev times : (ls : List ℤ) → Polynomial ls → Polynomial ls → Polynomial ls
times [] a b = a *ℤ b
times (x ∷ ls) [] q = []
times (x ∷ ls) (a ∷ p) q = plus (x ∷ ls) (map (times ls a) q) (number ls (pos 0) ∷ times (x ∷ ls) p q)

value-each : (x : ℤ) (ls : List ℤ) (a : Polynomial ls) → ((b : Polynomial ls) → value ls (times ls a b) ≡ value ls a *ℤ value ls b)
    → (q : List (Polynomial ls)) → value (x ∷ ls) (map (times ls a) q) ≡ value ls a *ℤ value (x ∷ ls) q
value-each x ls a h [] = sym (*ℤ-zero (value ls a))
value-each x ls a h (b ∷ q) =
    rw (value-each x ls a h q, h b, times-times (value ls a) (value (x ∷ ls) q) x)
    (sym (times-sum (value (x ∷ ls) q *ℤ x) (value ls b) (value ls a)))

moved_up : (a p q x : ℤ) → a *ℤ q +ℤ (p *ℤ q *ℤ x +ℤ pos 0) ≡ (p *ℤ x +ℤ a) *ℤ q
moved_up a p q x = rw (+ℤ_idr (p *ℤ q *ℤ x), times-swap p q x, sum-times (p *ℤ x) a q) (+ℤ_comm (a *ℤ q) (p *ℤ x *ℤ q))

value-times : (ls : List ℤ) (p q : Polynomial ls) → value ls (times ls p q) ≡ value ls p *ℤ value ls q
value-times [] a b = refl
value-times (x ∷ ls) [] q = sym (zero-*ℤ (value (x ∷ ls) q))
value-times (x ∷ ls) (a ∷ p) q =
    value-plus (x ∷ ls) (map (times ls a) q) (number ls (pos 0) ∷ times (x ∷ ls) p q)
    ∙ rw (value-each x ls a (value-times ls a) q, value-times (x ∷ ls) p q, value-number ls (pos 0))
    (moved_up (value ls a) (value (x ∷ ls) p) (value (x ∷ ls) q) x)

-- a side of an equation: natural numbers, letters by their place in the list, and what is made of them
infixl 6 ◌⊕◌
infixl 6 ◌⊖◌
infixl 7 ◌⊗◌
pub data Side : Type 0 where
  num : ℕ → Side
  var : ℕ → Side
  ◌⊕◌ : Side → Side → Side
  ◌⊖◌ : Side → Side → Side
  ◌⊗◌ : Side → Side → Side

-- what a side says, and the polynomial that it comes to
abbrev pub meaning : List ℤ → Side → ℤ
meaning ls (num n) = pos n
meaning ls (var i) = get_or ls i (pos 0)
meaning ls (s ⊕ t) = meaning ls s +ℤ meaning ls t
meaning ls (s ⊖ t) = meaning ls s -ℤ meaning ls t
meaning ls (s ⊗ t) = meaning ls s *ℤ meaning ls t

abbrev pub polynomial : (ls : List ℤ) → Side → Polynomial ls
polynomial ls (num n) = number ls (pos n)
polynomial ls (var i) = letter ls i
polynomial ls (s ⊕ t) = plus ls (polynomial ls s) (polynomial ls t)
polynomial ls (s ⊖ t) = plus ls (polynomial ls s) (times ls (number ls (negsuc 0)) (polynomial ls t))
polynomial ls (s ⊗ t) = times ls (polynomial ls s) (polynomial ls t)

meant : (ls : List ℤ) (s : Side) → value ls (polynomial ls s) ≡ meaning ls s
meant ls (num n) = value-number ls (pos n)
meant ls (var i) = value-letter ls i
meant ls (s ⊕ t) = value-plus ls _ _ ∙ rw (meant ls s, meant ls t)
meant ls (s ⊖ t) =
    value-plus ls _ _
    ∙ rw (value-times ls (number ls (negsuc 0)) (polynomial ls t), value-number ls (negsuc 0), meant ls s, meant ls t)
    (ap (λ (z : ℤ). meaning ls s +ℤ z) (pred_ℤ-*ℤ (pos 0) (meaning ls t) ∙ rw (zero-*ℤ (meaning ls t)) (+ℤ_idl _)))
meant ls (s ⊗ t) = value-times ls _ _ ∙ rw (meant ls s, meant ls t)

-- two sides are equal where all numbers of their difference are 0, which is `refl`
pub equal : (ls : List ℤ) (s t : Side) → size ls (polynomial ls (s ⊖ t)) ≡ 0 → meaning ls s ≡ meaning ls t
equal ls s t h =
    sym (-ℤ-+ℤ_cancel (meaning ls s) (meaning ls t))
    ∙ ap (λ (z : ℤ). z +ℤ meaning ls t) (sym (meant ls (s ⊖ t)) ∙ value_none ls _ h)
    ∙ +ℤ_idl (meaning ls t)
