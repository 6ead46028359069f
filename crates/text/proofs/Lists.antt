-- A list written in a loop: one element's text a turn, each of n digits.
use Prim.Native.Nat.{ℕ, ◌+◌, ◌*◌, ◌<◌, ◌≤◌}
use mathlib.Core.Path.{◌≡◌, sym, ap, ◌∙◌}
use mathlib.Core.List.{List, [], ◌∷◌}
use native.Mathlib.Omega.{arith}
use lib.ListN.{length, length-append, drop, get_or, drop_of_length-le}
use Rattle.units.proofs.Loop.{at-whole}
use Rattle.text.specs.Text.{list_text}
use Rattle.text.specs.Line.{written}
use Rattle.text.proofs.Written.{written_none, written-append}

module _ {A : Type 0} (text : A → List ℕ) (n : ℕ) (each : (a : A) → length (text a) ≡ n) where
  pub list_length : (l : List A) → length (list_text text l) ≡ n * length l
  unfolding list_text
  list_length [] = omega arith
  list_length (a ∷ l) = simp (length-append, each, list_length l) (omega arith)

  module _ (line : List ℕ) (at : ℕ) where
    pub list-end : written line at (list_text text []) ≡ line
    unfolding list_text
    list-end = sym (written_none line at)

    pub list-turn : (a : A) (l : List A) {next : List ℕ} → next ≡ written line at (text a)
        → written line at (list_text text (a ∷ l)) ≡ written next (at + n) (list_text text l)
    unfolding list_text
    list-turn a l e =
        sym (ap (λ (k : List ℕ). written k (at + n) (list_text text l)) e ∙ written-append line at n (text a) (list_text text l) (each a))

  -- a `for` over the list: whole is the line with the list's text, and what is left of that is still to be written
  module _ (l : List A) (i at : ℕ) (whole now : List ℕ) (left : whole ≡ written now (at + n * i) (list_text text (drop i l))) where
    pub list_step : (z : A) (next : List ℕ) → i < length l → next ≡ written now (at + n * i) (text (get_or l i z))
        → whole ≡ written next (at + n * (i + 1)) (list_text text (drop (i + 1) l))
    list_step z next h e =
        let place : at + n * i + n ≡ at + n * (i + 1) = omega arith in
        left
        ∙ ap (λ (k : List A). written now (at + n * i) (list_text text k)) (at-whole l i z h)
        ∙ list-turn now (at + n * i) (get_or l i z) (drop (i + 1) l) e
        ∙ ap (λ (k : ℕ). written next k (list_text text (drop (i + 1) l))) place

    pub list_done : length l ≤ i → now ≡ whole
    list_done h =
        sym (left ∙ ap (λ (k : List A). written now (at + n * i) (list_text text k)) (drop_of_length-le l h) ∙ list-end now (at + n * i))
