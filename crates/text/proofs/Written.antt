-- Texts stored one after the other are one text; a text that has room stands at its place, and nothing else has changed.
use Prim.Native.Nat.{ℕ, suc, ◌+◌, ◌≤◌}
use mathlib.Core.Path.{◌≡◌, refl, ap, ◌∙◌}
use mathlib.Core.List.{List, [], ◌∷◌, ◌++◌}
use native.Mathlib.Nat.{add-zero, add-suc, suc-add}
use native.Mathlib.Omega.{arith}
use lib.ListN.{length, take, drop, set}
use lib.Seq.{sets-eq, length-sets, take-append_seam}
use Rattle.text.specs.Line.{written}

pub written_none : (line : List ℕ) (at : ℕ) → line ≡ written line at []
unfolding written
written_none line at = refl

pub length-written : (line : List ℕ) (at : ℕ) (text : List ℕ) → length (written line at text) ≡ length line
unfolding written
length-written line at text = length-sets line at text

-- before the place and after the text the line is as it was
pub written-parts : (line : List ℕ) (at : ℕ) (text : List ℕ) → at + length text ≤ length line
    → written line at text ≡ take at line ++ text ++ drop (at + length text) line
unfolding written
written-parts line at text h = sets-eq text line at h

-- the text of a line that begins with it
pub written_back : (line text : List ℕ) → length text ≤ length line → take (length text) (written line 0 text) ≡ text
unfolding written
written_back line text h = rw (sets-eq text line 0 (omega arith)) (take-append_seam text _)

pub written-append : (line : List ℕ) (at n : ℕ) (a b : List ℕ) → length a ≡ n → written (written line at a) (at + n) b ≡ written line at (a ++ b)
unfolding written
written-append line at n [] b e = rw (← e, add-zero at)
written-append line at n (x ∷ a) b e =
    rw (← e, add-suc at (length a), ← suc-add at (length a)) (written-append (set line at x) (suc at) (length a) a b refl)

-- a text, and then another where it ends
pub and_then : (line : List ℕ) (at : ℕ) (a b : List ℕ) {mid end : List ℕ} {n place : ℕ} → length a ≡ n → mid ≡ written line at a
    → end ≡ written mid place b → place ≡ at + n → end ≡ written line at (a ++ b)
and_then line at a b {mid} {n = n} e p q h =
    q ∙ ap (λ (k : ℕ). written mid k b) h ∙ ap (λ (l : List ℕ). written l (at + n) b) p ∙ written-append line at n a b e
