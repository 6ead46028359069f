-- What is told: an answer's line at the front of the lent one, with its length; the cases of a step.
use Prim.Native.Nat.{ℕ, ◌≤◌}
use native.Mathlib.Omega.{arith}
use Rattle.std.proofs.Common.{take}
use lib.Seq.{length-take-le}
use Rattle.text.specs.Text.{list_text}
use Rattle.answer.specs.Lines.{list_line}
use mathlib.Core.Path.{◌≡◌, ap, sym, ◌∙◌}
use mathlib.Core.Bool.{true, false}
use mathlib.Core.List.{List}
use lib.ListN.{length}
use Rattle.units.proofs.Logic.{unless-go, unless-stop}
use Rattle.units.proofs.Choice.{pick_yes, pick_no}
use Rattle.hexadecimal.specs.Digits.{byte_at}
use Rattle.text.specs.Line.{written}
use Rattle.answer.proofs.Stored.{Stored}
use Rattle.held.specs.declared.Held.{Held}
use Rattle.frames.specs.Opening.{no_frame}
use Rattle.frames.specs.Step.{is_line, changes, change_of, show_of, told, step_of, stepped_of}

-- a text that stands at the front of the line does so under an equal one too
pub stored-as : (line : List ℕ) {text same : List ℕ} {r : ℕ} {end : List ℕ} → text ≡ same → Stored line text r end → Stored line same r end
stored-as line e s = record { value = s.value ∙ ap length e; out_after = s.out_after ∙ ap (written line 0) e }

-- and it is the answer of a step
pub stepped-as : (line : List ℕ) {text : List ℕ} {next : Held} {s : List ℕ × Held} {r : ℕ} {end : List ℕ} → (text, next) ≡ s → Stored line text r end
    → record { value : record { length = r; held = next } ≡ stepped_of s; out_after : end ≡ written line 0 s.0 }
stepped-as line {next = next} e p = record {
  value = ap (λ (n : ℕ). record { length = n; held = next }) p.value ∙ ap stepped_of e;
  out_after = p.out_after ∙ ap (λ (s : List ℕ × Held). written line 0 s.0) e;
}

-- the first n of a list lent to the writer of lists: the line has n rows
module _ {A : Type 0} (text : A → List ℕ) (number n : ℕ) (l : List A) (m : ℕ) (few : n ≤ m) (size : length l ≡ m) where
  pub lent-line : list_line number (length (take n l)) (list_text text (take n l)) ≡ list_line number n (list_text text (take n l))
  lent-line = ap (λ (k : ℕ). list_line number k (list_text text (take n l))) (length-take-le n l (omega arith))

-- the cases of a step
module _ (line : List ℕ) (h : Held) where
  pub step-refused : is_line line ≡ false → told (no_frame h) ≡ step_of line h
  unfolding step_of
  step-refused e = sym (unless-stop _ _ _ e)

  module _ (e : is_line line ≡ true) where
    pub step-changes : changes (byte_at line 0) ≡ true → told (change_of (byte_at line 0) line h) ≡ step_of line h
    unfolding step_of
    step-changes q = sym (unless-go _ _ _ e ∙ pick_yes _ _ _ q)

    pub step-shows : changes (byte_at line 0) ≡ false → (show_of (byte_at line 0) line h, h) ≡ step_of line h
    unfolding step_of
    step-shows q = sym (unless-go _ _ _ e ∙ pick_no _ _ _ q)
