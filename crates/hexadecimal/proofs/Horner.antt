-- A number folded digit after digit: each turn is 16 times what was read, and a digit.
use Rattle.std.proofs.Common.{◌≡◌, ℕ, ◌+◌, ◌*◌, ◌^◌, ◌<◌, ◌≤◌, true, List, ◌∷◌, length, get_or, drop, pow-suc, arith, pow-add, ltb-true}
use native.Mathlib.Nat.{pow-le-pow_right}
use lib.Seq.{take-length}
use Rattle.units.specs.Logic.{all_of}
use Rattle.units.proofs.Loop.{Left, at-whole, left-first, left_end, left_step}
use Rattle.units.proofs.Each.{each_at}
use Rattle.hexadecimal.specs.Granted.{small, folded_of}

-- the number so far, and the digits that are left
abbrev carried : ℕ → List ℕ → ℕ
carried n l = n * 16 ^ length l + folded_of l

carried-cons : (n v : ℕ) (l : List ℕ) → carried n (v ∷ l) ≡ carried (16 * n + v) l
carried-cons n v l = rw (pow-suc 16 (length l)) (omega arith)

-- n is the number of the first i digits
pub record Read (l : List ℕ) (i n : ℕ) : Type 0 where
  pub left : Left carried l (length l) 0 i n
  pub few : n < 16 ^ i

module _ (l : List ℕ) where
  pub read_first : Read l 0 0
  read_first = record { left = left-first carried l (length l) 0; few = omega arith }

  -- each digit is one
  pub digit-small : (i : ℕ) → i < length l → all_of small l ≡ true → get_or l i 0 < 16
  digit-small i h e = ltb-true _ _ (each_at small 0 l (length l) i (omega arith) h (rw take-length e))

  module _ (i n : ℕ) (q : Read l i n) where
    -- there is room for a digit more
    pub read-room : i < 16 → n < 2 ^ 60
    read-room h =
        let least : 1 ≤ 16 = omega arith in
        let most : 16 ^ i ≤ 16 ^ 15 = pow-le-pow_right least {j = 15} (omega arith) in
        omega (arith, q.few)

    pub read_step : (m : ℕ) → i < length l → get_or l i 0 < 16 → m ≡ 16 * n + get_or l i 0 → Read l (i + 1) m
    read_step m h s e =
        rw e record {
          left = left_step carried l (length l) 0 i n q.left _ (at-whole l i 0 h) h _ (carried-cons n (get_or l i 0) (drop (i + 1) l));
          few = omega (arith, q.few, pow-add 16 i 1);
        }

    pub read-end : length l ≤ i → n ≡ folded_of l
    read-end h = omega (arith, left_end carried l (length l) 0 i n q.left h)
