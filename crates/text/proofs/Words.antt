-- How long texts are, the text of n bytes by its parts, and the text of a number as that of its bytes.
use Prim.Native.Nat.{ℕ, zero, suc, ◌+◌, ◌*◌, ◌/◌, ◌%◌, ◌^◌, ◌<◌}
use mathlib.Core.Path.{◌≡◌, refl, sym, ap, ◌∙◌}
use mathlib.Core.List.{List, [], ◌∷◌, ◌++◌, append_assoc, append-nil}
use native.Mathlib.Nat.{zero-add, suc-add, mul_comm, div-one, div-div-eq-div-mul}
use lib.Pow.{pow-add}
use native.Mathlib.Omega.{arith}
use lib.ListN.{length, get_or, length-append}
use Rattle.units.specs.declared.Interval.{Interval}
use Rattle.units.specs.declared.TxData.{TxData}
use Rattle.std.specs.Int.{bytes_high_first}
use Rattle.std.proofs.lemmas.List.FromFn.{get_or-map-range_with_len}
use Rattle.text.specs.Text.{digit_of, byte_text, word_text, interval_text, dates_text, list_text}

-- the digits in a row
pub digit_at : (v i : ℕ) → v < 16 → i ≡ v
    → get_or (48 ∷ 49 ∷ 50 ∷ 51 ∷ 52 ∷ 53 ∷ 54 ∷ 55 ∷ 56 ∷ 57 ∷ 97 ∷ 98 ∷ 99 ∷ 100 ∷ 101 ∷ 102 ∷ []) i 0 ≡ digit_of v
unfolding digit_of
digit_at v i h e = get_or-map-range_with_len digit_of 0 16 i v 0 (omega arith) (omega arith)

pub byte-length : (b : ℕ) → length (byte_text b) ≡ 2
unfolding byte_text
byte-length b = refl

pub word-length : (n x : ℕ) → length (word_text n x) ≡ 2 * n
unfolding word_text
word-length zero x = refl
word-length (suc n) x = simp (length-append, byte-length, word-length n x) (omega arith)

pub interval-length : (w : Interval) → length (interval_text w) ≡ 32
unfolding interval_text
interval-length w = simp (length-append, word-length)

pub dates-length : (d : TxData) → length (dates_text d) ≡ 64
unfolding dates_text
dates-length d = simp (length-append, interval-length)

-- the bytes of a number, the highest of them first
pub word_list : (n x : ℕ) → list_text byte_text (bytes_high_first n x) ≡ word_text n x
unfolding list_text word_text
word_list zero x = refl
word_list (suc zero) x = rw div-one
word_list (suc (suc n)) x = ap (λ (l : List ℕ). byte_text (x / 256 ^ suc n % 256) ++ l) (word_list (suc n) x)

shift : (x m n : ℕ) → x / 256 ^ (m + n) ≡ x / 256 ^ n / 256 ^ m
shift x m n = ap (λ (k : ℕ). x / k) (pow-add 256 m n ∙ mul_comm (256 ^ m) (256 ^ n)) ∙ sym (div-div-eq-div-mul x (256 ^ n) (256 ^ m))

-- the high bytes, then the low ones
pub word-append : (m n x : ℕ) → word_text (m + n) x ≡ word_text m (x / 256 ^ n) ++ word_text n x
unfolding word_text
word-append zero n x = rw zero-add
word-append (suc m) n x = rw (suc-add m n, shift x m n, word-append m n x, append_assoc)

pub word_byte : (x : ℕ) → word_text 1 x ≡ byte_text (x % 256)
unfolding word_text
word_byte x = rw (append-nil, div-one)

pub pair-bytes : (x : ℕ) → byte_text (x / 256 % 256) ++ byte_text (x % 256) ≡ word_text 2 x
pair-bytes x = sym (word-append 1 1 x ∙ rw (word_byte x, word_byte (x / 256)))
