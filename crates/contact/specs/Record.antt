-- 01, "Records": unused places are zero, and all that the opening tests holds; volume segments hold rate times length.
use Rattle.std.specs.Prelude.{ℕ, Bool, ◌≡◌, ◌⊎◌, eqb, take, drop, List, map, Option}
use Rattle.units.specs.declared.Interval.{Interval}
use Rattle.units.specs.declared.Offer.{Offer}
use Rattle.units.specs.Logic.{both, all_of}
use Rattle.segmentation.specs.declared.VolumeSegment.{VolumeSegment}
use Rattle.segmentation.specs.declared.DelaySegment.{DelaySegment}
use Rattle.units.specs.declared.Date.{Date}
use Rattle.segmentation.specs.declared.Delays.{Delays}
use Rattle.segmentation.specs.Delay.{delays_of, answer_with}
use Rattle.segmentation.specs.End.{end_of}
use Rattle.contact.specs.declared.Contact.{Contact}
use Rattle.contact.specs.Choices.{flagging}
use Rattle.contact.specs.Segments.{rate_segment, whole_of, no_volume, no_delay}
use Rattle.contact.specs.Open.{total_of, open_contact}

-- the rate segments and the delay segments of a contact
abbrev pub rates_of : Contact → List VolumeSegment
rates_of c = take c.rate_count c.rates

abbrev pub delay_list : Contact → List DelaySegment
delay_list c = take c.delay_count c.delays

-- the total volume of a contact, by the rates that it keeps
abbrev pub total_in : Contact → ℕ
total_in c = total_of (map rate_segment (rates_of c))

-- the edition that a contact names, and its end rule over the rate segments
abbrev pub edition_of : Contact → ℕ
edition_of c = c.choices.edition.0

abbrev pub end_rule : Contact → ℕ → ℕ → ℕ → Option Date
end_rule c = end_of (edition_of c) (rates_of c)

-- its strict flag, and the contact with another
abbrev pub strict_of : Contact → ℕ
strict_of c = c.choices.strict.0

abbrev pub flagged : ℕ → Contact → Contact
flagged n c =
    record {
      choices = flagging n c.choices;
      window = c.window;
      rates = c.rates;
      rate_count = c.rate_count;
      delays = c.delays;
      delay_count = c.delay_count;
    }

-- 02, R-7 and R-5: every send holds an instant where the flag is on or the edition is 2
abbrev pub Lasts : Contact → Type 0
Lasts c = (strict_of c ≡ 1) ⊎ (edition_of c ≡ 2)

-- the delays at a send start and a send end by the rule that it names, and the answer with a send interval
abbrev pub delays_at : Contact → ℕ → ℕ → Option Delays
delays_at c = delays_of c.choices.rule.0 (delay_list c)

abbrev pub answer_in : Contact → Interval → Offer
answer_in c = answer_with (delays_at c)

-- an opening with the contact's own figures is done, its volumes are rates times lengths, and nothing is in an unused place
unfoldable pub contact_ok : Contact → Bool
contact_ok c =
    both (eqb (open_contact c.choices c.window (map rate_segment c.rates) c.rate_count c.delays c.delay_count).number 0)
    (both (all_of whole_of (take c.rate_count c.rates))
    (both (all_of no_volume (drop c.rate_count c.rates))
    (all_of no_delay (drop c.delay_count c.delays))))
