-- The values of a number's digits: two a byte, 0 past the end, each below 16; folded they are the number.
use Rattle.std.proofs.Common.{◌≡◌, ℕ, zero, suc, ◌+◌, ◌-◌, ◌*◌, ◌/◌, ◌^◌, ◌<◌, ◌≤◌, min, true, List, [], ◌∷◌, ◌++◌, map, length, get_or, take, drop, set, replicate, sym, refl, ap, ◌∙◌, pow-suc, arith, length-take, lt-ltb}
use lib.ListN.{length-map}
use Rattle.units.specs.Logic.{all_of}
use Rattle.units.specs.Arrays.{padded}
use Rattle.units.proofs.Logic.{all_go}
use Rattle.units.proofs.Loop.{at-whole}
use Rattle.units.proofs.Arrays.{all_replicate, padded-none, padded-turn-map, length-padded}
use Rattle.hexadecimal.specs.Digits.{value_of}
use Rattle.hexadecimal.specs.Numbers.{word_at}
use Rattle.hexadecimal.specs.Granted.{small, padded_values, values_of, folded_of}
use Rattle.hexadecimal.proofs.Digits.{value-small}
use Rattle.hexadecimal.proofs.Bytes.{byte_inside}
use Rattle.hexadecimal.proofs.Numbers.{word_none, word-cons, word-past}

-- each value is small
all-values : (l : List ℕ) (k : ℕ) → all_of small (map value_of l ++ replicate k 0) ≡ true
all-values [] k = all_replicate small k 0 refl
all-values (x ∷ l) k = all_go small (value_of x) _ (lt-ltb _ _ (value-small x)) ∙ all-values l k

pub values_small : (digits : List ℕ) → all_of small (padded_values digits) ≡ true
unfolding padded
values_small digits = all-values digits (16 - length (map value_of digits))

-- a turn of a loop that reads value after value
pub values_first : replicate 16 0 ≡ padded_values []
values_first = padded-none 16 0

pub values_step : (digits : List ℕ) (i v : ℕ) (d : List ℕ) → i < length digits → length digits ≤ 16 → d ≡ padded_values (take i digits)
    → v ≡ value_of (get_or digits i 0) → set d i v ≡ padded_values (take (i + 1) digits)
values_step digits i v d h k e f = rw (e, f) (padded-turn-map 16 0 value_of digits i 0 (omega arith) h)

-- zeros fold to 0
folded-none : (n : ℕ) → folded_of (replicate n 0) ≡ 0
folded-none zero = refl
folded-none (suc n) = omega (arith, folded-none n)

-- two digits are a byte
folded-pair : (x y : ℕ) (l : List ℕ) → folded_of (x ∷ y ∷ l) ≡ (16 * x + y) * 16 ^ length l + folded_of l
folded-pair x y l = rw (pow-suc 16 (length l)) (omega arith)

-- and two powers of 16 one of 256
power-pairs : (k : ℕ) → 16 ^ (2 * k) ≡ 256 ^ k
power-pairs zero = refl
power-pairs (suc k) =
    let two : 2 * suc k ≡ suc (suc (2 * k)) = omega arith in
    rw (two, pow-suc 16 (suc (2 * k)), pow-suc 16 (2 * k), power-pairs k, pow-suc 256 k) (omega arith)

-- what is padded after a pair
padded-pair : (k x y : ℕ) (l : List ℕ) → padded (2 * suc k) 0 (x ∷ y ∷ l) ≡ x ∷ y ∷ padded (2 * k) 0 l
unfolding padded
padded-pair k x y l =
    let left : 2 * suc k - suc (suc (length l)) ≡ 2 * k - length l = omega arith in
    rw left

module _ (line : List ℕ) where
  -- the values of m bytes' digits
  abbrev values : ℕ → ℕ → List ℕ
  values m at = map value_of (take (2 * m) (drop (2 * at) line))

  length-values : (m at : ℕ) → length (values m at) ≤ 2 * m
  length-values m at = simp (length-map, length-take) (omega arith)

  values-pair : (m at : ℕ) → at < length line / 2
      → values (suc m) at ≡ value_of (get_or line (2 * at) 0) ∷ value_of (get_or line (2 * at + 1) 0) ∷ values m (at + 1)
  values-pair m at h =
      let two : 2 * suc m ≡ suc (suc (2 * m)) = omega arith in
      let next : 2 * (at + 1) ≡ 2 * at + 1 + 1 = omega arith in
      rw (two, next, at-whole line (2 * at) 0 (omega arith), at-whole line (2 * at + 1) 0 (omega arith))

  -- a number of k bytes, of which the line has m
  word-values : (k m at : ℕ) → m ≡ min k (length line / 2 - at) → folded_of (padded (2 * k) 0 (values m at)) ≡ word_at k line at
  word-values zero zero at e = ap folded_of (sym (padded-none 0 0)) ∙ sym (word_none line at)
  word-values zero (suc m) at e = absurd (omega arith)
  word-values (suc k) zero at e = ap folded_of (sym (padded-none (2 * suc k) 0)) ∙ folded-none (2 * suc k) ∙ sym (word-past line (suc k) at (omega arith))
  word-values (suc k) (suc m) at e =
      let P = padded (2 * k) 0 (values m (at + 1)) in
      let len : length P ≡ 2 * k = length-padded (2 * k) 0 _ (omega (arith, length-values m (at + 1))) in
      rw (values-pair m at (omega arith), padded-pair k, folded-pair, len, power-pairs k, word-cons line k at, byte_inside line at (omega arith))
      (omega (arith, word-values k m (at + 1) (omega arith)))

  -- the digits that the line has of a number, folded
  pub number-values : (at n : ℕ) → n ≡ 2 * min 8 (length line / 2 - at) → folded_of (values_of line (2 * at) n) ≡ word_at 8 line at
  number-values at n e = rw e (word-values 8 _ at refl)
