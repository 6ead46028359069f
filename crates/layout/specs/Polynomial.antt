-- 01, "The trace program", 03: start, end, offset, 4 coefficients, delay count, delays; and 02's 23.
use Rattle.std.specs.Prelude.{ℕ, ◌+◌, ◌*◌, List, [], ◌∷◌}
use Rattle.poly.specs.declared.Polynome.{Polynome}
use Rattle.hexadecimal.specs.Digits.{byte_at}
use Rattle.hexadecimal.specs.Numbers.{number_at, signed_of}
use Rattle.layout.specs.declared.polynomial.PolynomialOpening.{PolynomialOpening}
use Rattle.layout.specs.Fields.{date_at, interval_at}
use Rattle.layout.specs.Segments.{delays_at}
use Rattle.layout.specs.Rule.{length_of, rule_at}

-- in bytes: where the delays end, after what stands before them and 24 for each; and the length
abbrev pub polynomial_end : List ℕ → ℕ
polynomial_end line = 58 + 24 * byte_at line 57

abbrev pub polynomial_length : List ℕ → ℕ
polynomial_length line = length_of line (polynomial_end line)

-- the offset and the coefficients, which may be negative
unfoldable pub polynome_of : List ℕ → Polynome
polynome_of line =
    record {
      coefficients =
          signed_of (number_at line 25) ∷ signed_of (number_at line 33) ∷ signed_of (number_at line 41) ∷ signed_of (number_at line 49) ∷ [];
      offset = date_at line 17;
    }

unfoldable pub polynomial_of : List ℕ → PolynomialOpening
polynomial_of line =
    record {
      rule = rule_at line (polynomial_end line);
      window = interval_at line 1;
      polynome = polynome_of line;
      delays = delays_at line 58 (byte_at line 57);
      delay_count = byte_at line 57;
    }
