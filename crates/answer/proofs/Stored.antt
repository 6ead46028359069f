-- An answer's line stored from the front, and its length: its parts written one after the other, and the choice by the number.
use Prim.Native.Nat.{ℕ, ◌+◌}
use mathlib.Core.Path.{◌≡◌, refl, ◌∙◌}
use mathlib.Core.List.{List}
use native.Mathlib.Omega.{arith}
use borrow.Author.Tests.{eq-eqb, ne_eqb}
use lib.Dec.{eqb}
use lib.ListN.{length, length-append}
use Rattle.units.specs.declared.Offer.{Offer}
use Rattle.units.specs.declared.Volume.{Volume}
use Rattle.units.specs.Logic.{pick}
use Rattle.text.specs.Line.{written}
use Rattle.text.specs.Text.{byte_text, number_text, dates_text}
use Rattle.text.proofs.Words.{byte-length, word-length, dates-length}
use Rattle.text.proofs.Written.{and_then}
use Rattle.answer.specs.Lines.{line_end, number_line, offer_line, list_line, room_line}

-- the text stands at the front of the line, and r is its length
abbrev pub Stored : List ℕ → List ℕ → ℕ → List ℕ → Type 0
Stored line text r end = record { value : r ≡ length text; out_after : end ≡ written line 0 text }

module _ (line : List ℕ) {r : ℕ} {end : List ℕ} where
  -- another number than 0 stands alone
  alone : (number : ℕ) (text : List ℕ) → (number ≡ 0 → ⊥) → Stored line (number_line number) r end
      → Stored line (pick (eqb number 0) text (number_line number)) r end
  alone number text ne s = rw (ne_eqb number 0 ne) s

  after-0 : (number : ℕ) (text : List ℕ) → number ≡ 0 → Stored line text r end → Stored line (pick (eqb number 0) text (number_line number)) r end
  after-0 number text e s = rw (eq-eqb number 0 e) s

  pub number-stored : (number : ℕ) {a : List ℕ} {p : ℕ} → a ≡ written line 0 (byte_text number) → end ≡ written a p line_end → p ≡ 2 → r ≡ 3
      → Stored line (number_line number) r end
  unfolding number_line
  number-stored number e f h k = record { value = k ∙ simp (length-append, byte-length); out_after = and_then line 0 _ _ (byte-length number) e f h }

  module _ (o : Offer) where
    pub offer-number : (o.number ≡ 0 → ⊥) → Stored line (number_line o.number) r end → Stored line (offer_line o) r end
    unfolding offer_line
    offer-number ne s = alone _ _ ne s

    pub offer-dates : o.number ≡ 0 → {a b : List ℕ} {p q : ℕ} → a ≡ written line 0 (byte_text 0) → b ≡ written a p (dates_text o.dates)
        → end ≡ written b q line_end → p ≡ 2 → q ≡ 66 → r ≡ 67 → Stored line (offer_line o) r end
    unfolding offer_line
    offer-dates z {p = p} e f g h k m =
        after-0 _ _ z (record { value = m ∙ simp (length-append, byte-length, dates-length); out_after = and_then line 0 _ _ (byte-length 0) e (and_then _ p _ _ (dates-length _) f g (omega arith)) h })

  module _ (number count : ℕ) (rows : List ℕ) where
    pub list-number : (number ≡ 0 → ⊥) → Stored line (number_line number) r end → Stored line (list_line number count rows) r end
    unfolding list_line
    list-number ne s = alone _ _ ne s

    pub list-rows : number ≡ 0 → {a b c : List ℕ} {n p at q : ℕ} → a ≡ written line 0 (byte_text 0) → b ≡ written a p (byte_text n)
        → record { value : at ≡ 4 + length rows; out_after : c ≡ written b 4 rows } → end ≡ written c q line_end → n ≡ count → p ≡ 2 → q ≡ at → r ≡ at + 1
        → Stored line (list_line number count rows) r end
    unfolding list_line
    list-rows z {p = p} e f g h i j k m =
        let rest = and_then _ 4 rows line_end refl g.out_after h (omega (arith, g.value)) in
        let counted = and_then _ p _ _ (byte-length _) f rest (omega arith) in
        after-0 _ _ z (record { value = simp (length-append, byte-length) (omega (arith, g.value)); out_after = and_then line 0 _ _ (byte-length 0) e (rw i at counted) j })

  module _ (number : ℕ) (room : Volume) where
    pub room-number : (number ≡ 0 → ⊥) → Stored line (number_line number) r end → Stored line (room_line number room) r end
    unfolding room_line
    room-number ne s = alone _ _ ne s

    pub room-stored : number ≡ 0 → {a b : List ℕ} {p q : ℕ} → a ≡ written line 0 (byte_text 0) → b ≡ written a p (number_text room.0)
        → end ≡ written b q line_end → p ≡ 2 → q ≡ 18 → r ≡ 19 → Stored line (room_line number room) r end
    unfolding room_line
    room-stored z {p = p} e f g h k m =
        after-0 _ _ z (record { value = m ∙ simp (length-append, byte-length, word-length); out_after = and_then line 0 _ _ (byte-length 0) e (and_then _ p _ _ (word-length 8 _) f g (omega arith)) h })
