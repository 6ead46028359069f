-- 01, "Refusal numbers", the polynomial manager's opening: 3, 5, 11 in this order, and 02's 2 before all else; the whole window is listed, bare.
use Rattle.std.specs.Prelude.{ℕ, Bool, List, [], ◌∷◌, leb, eqb, pos, take, replicate}
use Rattle.units.specs.declared.Interval.{Interval}
use Rattle.units.specs.Logic.{both, pick, unless, all_of}
use Rattle.units.specs.Limits.{segments_max, date_max, delay_max, window_ok}
use Rattle.units.specs.Answer.{interval}
use Rattle.units.specs.Arrays.{padded}
use Rattle.segmentation.specs.declared.DelaySegment.{DelaySegment}
use Rattle.contact.specs.Segments.{zero_delay, delays_ok as cover_ok}
use Rattle.free_list.specs.Cut.{list_in, whole_window}
use Rattle.poly.specs.declared.Polynome.{Polynome}
use Rattle.poly.specs.Poly.{poly_ok}
use Rattle.poly_seg.specs.declared.Choices.{Choices}
use Rattle.poly_seg.specs.declared.Opened.{Opened}
use Rattle.poly_seg.specs.Choices.{unchosen, choices_ok}

-- the dates and the delay of a delay segment inside their limits
unfoldable pub delay_ok : DelaySegment → Bool
delay_ok s = both (leb s.start.0 date_max) (both (leb s.end.0 date_max) (leb s.delay.0 delay_max))

-- refusal 5 by rule 1: only a count above 16 or a number outside its limits
unfoldable pub delays_ok : ℕ → List DelaySegment → Bool
delays_ok n l = both (leb n segments_max) (all_of delay_ok (take n l))

-- by rule 2 (02, R-4) they cover the window as the other managers' do
unfoldable pub delays_by : ℕ → Interval → ℕ → List DelaySegment → Bool
delays_by rule w n l = pick (eqb rule 2) (cover_ok w n l) (delays_ok n l)

-- a refused opening returns an all-zero record
abbrev pub refused_opening : ℕ → Opened
refused_opening n =
    record {
      number = n;
      manager = record {
        choices = unchosen;
        window = interval 0 0;
        polynome = record { coefficients = replicate 4 (pos 0); offset = record { 0 = 0 } };
        delays = replicate segments_max zero_delay;
        delay_count = 0;
        free = list_in [];
      };
    }

-- the opening
unfoldable pub open_of : Choices → Interval → Polynome → List DelaySegment → ℕ → Opened
open_of h w p delays k =
    unless (choices_ok h) (refused_opening 2)
    (unless (window_ok w) (refused_opening 3)
    (unless (delays_by h.rule.0 w k delays) (refused_opening 5)
    (unless (poly_ok h.mode.0 p w) (refused_opening 11)
    (record {
      number = 0;
      manager = record {
        choices = h;
        window = w;
        polynome = p;
        delays = padded segments_max zero_delay (take k delays);
        delay_count = k;
        free = list_in (whole_window w 0 ∷ []);
      };
    }))))
