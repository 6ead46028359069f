-- 01, "The trace program", 01/02: start, end, rate count, delay count, (start, end, rate)s, (start, end, delay)s; and 02's 21/22.
use Rattle.std.specs.Prelude.{ℕ, ◌+◌, ◌*◌, List}
use Rattle.hexadecimal.specs.Digits.{byte_at}
use Rattle.layout.specs.declared.opening.Opening.{Opening}
use Rattle.layout.specs.Fields.{interval_at}
use Rattle.layout.specs.Segments.{rates_at, delays_at}
use Rattle.layout.specs.Rule.{length_of, rule_at}

abbrev pub rates_counted : List ℕ → ℕ
rates_counted line = byte_at line 17

abbrev pub delays_counted : List ℕ → ℕ
delays_counted line = byte_at line 18

-- in bytes: where the segments end, after what stands before them and 24 for each; and the length
abbrev pub opening_end : List ℕ → ℕ
opening_end line = 19 + 24 * (rates_counted line + delays_counted line)

abbrev pub opening_length : List ℕ → ℕ
opening_length line = length_of line (opening_end line)

unfoldable pub opening_of : List ℕ → Opening
opening_of line =
    record {
      rule = rule_at line (opening_end line);
      window = interval_at line 1;
      rates = rates_at line 19 (rates_counted line);
      rate_count = rates_counted line;
      delays = delays_at line (19 + 24 * rates_counted line) (delays_counted line);
      delay_count = delays_counted line;
    }
