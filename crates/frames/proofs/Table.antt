-- The table of kinds: what a kind that stands in it gives, and what one that stands nowhere gives.
use Prim.Native.Nat.{ℕ, ◌<◌, ◌≤◌}
use mathlib.Core.Bool.{Bool, true, false, ◌||◌}
use mathlib.Core.Path.{◌≡◌, refl, ap, sym, ◌∙◌}
use mathlib.Core.List.{List}
use mathlib.Core.Logic.{⊎_elim}
use native.Mathlib.Omega.{arith}
use lib.Dec.{eqb}
use borrow.Author.Tests.{ne_eqb}
use Rattle.units.proofs.Numbers.{eq-or-ne}
use Rattle.hexadecimal.specs.Digits.{byte_at}
use Rattle.answer.specs.Lines.{number_line}
use Rattle.held.specs.declared.Held.{Held}
use Rattle.held.specs.declared.Done.{Done}
use Rattle.frames.specs.Opening.{no_frame}
use Rattle.frames.specs.declared.frame.Frame.{Frame}
use Rattle.frames.specs.Step.{on, changes, change_of, show_of}
use Rattle.frames.specs.Granted.{kind_frame}
use Rattle.std.specs.Prelude.{Option, None}

-- the table's line of another kind
miss : {A : Type 0} (a : A) {k n : ℕ} {r e : A} → (k ≡ n → ⊥) → e ≡ r → on k n a e ≡ r
unfolding on
miss a p q = rw (ne_eqb _ _ p) q

pub or_no : {k n : ℕ} {b : Bool} → (k ≡ n → ⊥) → b ≡ false → (eqb k n || b) ≡ false
or_no p q = rw (ne_eqb _ _ p) q

-- what the tables say of a number, or of none of theirs, they say of the kind that was read
module _ (line : List ℕ) {k : ℕ} (read : k ≡ byte_at line 0) where
  pub frame-as : {n : ℕ} {r : Option Frame} → k ≡ n → r ≡ kind_frame n line → r ≡ kind_frame (byte_at line 0) line
  frame-as e q = q ∙ ap (λ (j : ℕ). kind_frame j line) (sym e ∙ read)

  pub frame-none : (k ≡ 1 → ⊥) → (k ≡ 2 → ⊥) → (k ≡ 3 → ⊥) → (k ≡ 4 → ⊥) → (k ≡ 16 → ⊥) → (k ≡ 17 → ⊥) → (k ≡ 18 → ⊥) → (k ≡ 19 → ⊥) → (k ≡ 20 → ⊥) → (k ≡ 21 → ⊥) → (k ≡ 33 → ⊥) → (k ≡ 34 → ⊥) → (k ≡ 35 → ⊥)
      → None ≡ kind_frame (byte_at line 0) line
  unfolding kind_frame
  frame-none a b d e f g i j l m o p q =
      frame-as refl
      (sym (miss _ a (miss _ b (miss _ d (miss _ e (miss _ f (miss _ g (miss _ i (miss _ j (miss _ l (miss _ m (miss _ o (miss _ p (miss _ q refl))))))))))))))

module _ (line : List ℕ) (h : Held) {k : ℕ} (read : k ≡ byte_at line 0) where
  of_number : {A : Type 0} (f : ℕ → A) {n : ℕ} {r : A} → k ≡ n → r ≡ f n → r ≡ f (byte_at line 0)
  of_number f e q = q ∙ ap f (sym e ∙ read)

  pub change-as : {n : ℕ} {r : Done} → k ≡ n → r ≡ change_of n line h → r ≡ change_of (byte_at line 0) line h
  change-as e q = of_number (λ (j : ℕ). change_of j line h) e q

  pub show-as : {n : ℕ} {text : List ℕ} → k ≡ n → text ≡ show_of n line h → text ≡ show_of (byte_at line 0) line h
  show-as e q = of_number (λ (j : ℕ). show_of j line h) e q

  pub change-none : (k ≡ 1 → ⊥) → (k ≡ 2 → ⊥) → (k ≡ 3 → ⊥) → (k ≡ 4 → ⊥) → (k ≡ 17 → ⊥) → (k ≡ 19 → ⊥) → (k ≡ 20 → ⊥) → (k ≡ 33 → ⊥) → (k ≡ 34 → ⊥) → (k ≡ 35 → ⊥)
      → no_frame h ≡ change_of (byte_at line 0) line h
  unfolding change_of
  change-none a b d e f g i j l m =
      change-as refl (sym (miss _ a (miss _ b (miss _ d (miss _ e (miss _ f (miss _ g (miss _ i (miss _ j (miss _ l (miss _ m refl)))))))))))

  pub show-none : (k ≡ 16 → ⊥) → (k ≡ 18 → ⊥) → (k ≡ 21 → ⊥) → number_line 255 ≡ show_of (byte_at line 0) line h
  unfolding show_of
  show-none a b d = show-as refl (sym (miss _ a (miss _ b (miss _ d refl))))

-- the code's stretches: 1 to 4, 17, 19 to 20, 33 to 35
module _ {k b : ℕ} (read : k ≡ b) where
  pub changes-no : (1 ≤ k → 5 ≤ k) → (k ≡ 17 → ⊥) → (19 ≤ k → 21 ≤ k) → (33 ≤ k → 36 ≤ k) → false ≡ changes b
  unfolding changes
  changes-no low booking high top =
      let early : (n : ℕ) → 1 ≤ n → n < 5 → k ≡ n → ⊥ = λ n a b e. omega (arith, low (omega arith)) in
      let late : (n : ℕ) → 19 ≤ n → n < 21 → k ≡ n → ⊥ = λ n a b e. omega (arith, high (omega arith)) in
      let ruled : (n : ℕ) → 33 ≤ n → n < 36 → k ≡ n → ⊥ = λ n a b e. omega (arith, top (omega arith)) in
      sym (or_no (early 1 (omega arith) (omega arith))
      (or_no (early 2 (omega arith) (omega arith))
      (or_no (early 3 (omega arith) (omega arith))
      (or_no (early 4 (omega arith) (omega arith))
      (or_no booking (or_no (late 19 (omega arith) (omega arith)) (or_no (late 20 (omega arith) (omega arith))
      (or_no (ruled 33 (omega arith) (omega arith)) (or_no (ruled 34 (omega arith) (omega arith)) (ne_eqb _ _ (ruled 35 (omega arith) (omega arith))))))))))))
      ∙ ap changes read

  is : (n : ℕ) → true ≡ changes n → k ≡ n → true ≡ changes b
  is n e q = e ∙ ap changes (sym q ∙ read)

  pub changes-early : 1 ≤ k → k < 5 → true ≡ changes b
  unfolding changes
  changes-early h q =
      ⊎_elim (is 1 refl)
      (λ one. ⊎_elim (is 2 refl) (λ two. ⊎_elim (is 3 refl) (λ three. is 4 refl (omega arith)) (eq-or-ne k 3)) (eq-or-ne k 2))
      (eq-or-ne k 1)

  pub changes-booking : k ≡ 17 → true ≡ changes b
  unfolding changes
  changes-booking e = is 17 refl e

  pub changes-late : 19 ≤ k → k < 21 → true ≡ changes b
  unfolding changes
  changes-late h q = ⊎_elim (is 19 refl) (λ other. is 20 refl (omega arith)) (eq-or-ne k 19)

  pub changes-ruled : 33 ≤ k → k < 36 → true ≡ changes b
  unfolding changes
  changes-ruled h q = ⊎_elim (is 33 refl) (λ one. ⊎_elim (is 34 refl) (λ two. is 35 refl (omega arith)) (eq-or-ne k 34)) (eq-or-ne k 33)
