-- Rows written one after the other: what a turn adds to the rows before it.
use Prim.Native.Nat.{ℕ, ◌+◌, ◌<◌}
use mathlib.Core.Path.{◌≡◌, refl, sym, ap, ◌∙◌}
use mathlib.Core.List.{List, [], ◌∷◌, ◌++◌}
use native.Mathlib.Numerals.{add-one}
use native.Mathlib.Omega.{arith}
use lib.ListN.{length, take, get_or, length-append}
use Rattle.std.proofs.Common.{append_assoc, append-nil}
use lib.Seq.{take-suc}
use Rattle.text.specs.Line.{written}
use Rattle.text.specs.Text.{list_text}
use Rattle.text.proofs.Written.{written_none, written-append}

module _ {A : Type 0} (text : A → List ℕ) where
  text-append : (a b : List A) → list_text text (a ++ b) ≡ list_text text a ++ list_text text b
  unfolding list_text
  text-append [] b = refl
  text-append (x ∷ a) b = rw (text-append a b, append_assoc) refl

  one-text : (a : A) → list_text text (a ∷ []) ≡ text a
  unfolding list_text
  one-text a = append-nil (text a)

  pub none-yet : (l : List A) (line : List ℕ) → record { place : 4 ≡ 4 + length (list_text text (take 0 l)); line : line ≡ written line 4 (list_text text (take 0 l)) }
  unfolding list_text
  none-yet l line = record { place = refl; line = written_none line 4 }

  -- the text of the first i rows
  abbrev pub so_far : List A → ℕ → List ℕ
  so_far l i = list_text text (take i l)

  module _ (l : List A) (i : ℕ) (a : A) (lt : i < length l) (is : a ≡ get_or l i a) where
    pub so-far-next : so_far l (i + 1) ≡ so_far l i ++ text a
    so-far-next =
        ap (list_text text) (ap (λ (n : ℕ). take n l) (add-one i) ∙ take-suc l i a lt)
        ∙ text-append (take i l) (get_or l i a ∷ [])
        ∙ ap (λ (x : A). so_far l i ++ list_text text (x ∷ [])) (sym is)
        ∙ ap (λ (t : List ℕ). so_far l i ++ t) (one-text a)

    module _ (line : List ℕ) {now next : List ℕ} {at there : ℕ} (place : at ≡ 4 + length (so_far l i)) (stands : now ≡ written line 4 (so_far l i)) where
      -- a turn
      pub row-next : record { value : there ≡ at + length (text a); out_after : next ≡ written now at (text a) }
          → record { place : there ≡ 4 + length (so_far l (i + 1)); line : next ≡ written line 4 (so_far l (i + 1)) }
      row-next p = record {
        place = rw (so-far-next, length-append) (omega (arith, p.value));
        line =
            p.out_after
            ∙ ap (λ (k : List ℕ). written k at (text a)) stands
            ∙ ap (λ (n : ℕ). written (written line 4 (so_far l i)) n (text a)) place
            ∙ written-append line 4 (length (so_far l i)) (so_far l i) (text a) refl
            ∙ ap (written line 4) (sym so-far-next);
      }
