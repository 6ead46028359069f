-- The bytes of a line by position: the pair of digits at a place.
use Rattle.std.proofs.Common.{◌≡◌, ℕ, zero, suc, ◌+◌, ◌*◌, ◌/◌, ◌<◌, ◌≤◌, List, [], ◌∷◌, map, length, get_or, sym, refl, ap, ◌∙◌, arith}
use Rattle.std.proofs.lemmas.List.{get_or-map}
use Rattle.std.specs.Simd.{first_chunks}
use lib.ListN.{get_or-eq_default}
use Rattle.hexadecimal.specs.Digits.{value_of, bytes_of, byte_at}

-- two digits a byte
pub length-bytes : (line : List ℕ) → length (bytes_of line) ≡ length line / 2
length-bytes [] = refl
length-bytes (x ∷ []) = refl
length-bytes (x ∷ y ∷ line) = omega (arith, length-bytes line)

-- a place past the end counts 0
pub byte_past : (line : List ℕ) (at : ℕ) → length line / 2 ≤ at → byte_at line at ≡ 0
unfolding byte_at
byte_past line at h = get_or-eq_default (bytes_of line) 0 (omega (arith, length-bytes line))

pub byte_inside : (line : List ℕ) (at : ℕ) → at < length line / 2
    → byte_at line at ≡ 16 * value_of (get_or line (2 * at) 0) + value_of (get_or line (2 * at + 1) 0)
unfolding byte_at
byte_inside [] at h = absurd (omega arith)
byte_inside (x ∷ []) at h = absurd (omega arith)
byte_inside (x ∷ y ∷ line) zero h = refl
byte_inside (x ∷ y ∷ line) (suc at) h =
    let high : 2 * suc at ≡ suc (suc (2 * at)) = omega arith in
    let low : 2 * suc at + 1 ≡ suc (suc (2 * at + 1)) = omega arith in
    rw (low, high) (byte_inside line at (omega arith))

-- the byte of two digits
pair_byte : List ℕ → ℕ
pair_byte p = 16 * value_of (get_or p 0 0) + value_of (get_or p 1 0)

in-pairs : (line : List ℕ) → bytes_of line ≡ map pair_byte (first_chunks 2 (length line / 2) line)
unfolding pair_byte
in-pairs [] = refl
in-pairs (x ∷ []) = refl
in-pairs (x ∷ y ∷ line) =
    let half : suc (suc (length line)) / 2 ≡ suc (length line / 2) = omega arith in
    rw half (ap (λ (l : List ℕ). (16 * value_of x + value_of y) ∷ l) (in-pairs line))

-- the byte at the place of a pair
pub byte_of_pair : (line : List ℕ) (at : ℕ) (pairs : List (List ℕ)) (p : List ℕ) (high low : ℕ) → pairs ≡ first_chunks 2 (length line / 2) line
    → at < length pairs → p ≡ get_or pairs at p → high ≡ value_of (get_or p 0 0) → low ≡ value_of (get_or p 1 0) → 16 * high + low ≡ byte_at line at
unfolding byte_at pair_byte
byte_of_pair line at pairs p high low e h is f g =
    let at_place : get_or (bytes_of line) at 0 ≡ pair_byte p =
    ap (λ (l : List ℕ). get_or l at 0) (in-pairs line ∙ ap (map pair_byte) (sym e)) ∙ get_or-map pair_byte pairs at p 0 h ∙ ap pair_byte (sym is) in
    rw (f, g) (sym at_place)
