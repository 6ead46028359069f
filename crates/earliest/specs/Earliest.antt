-- 02, R-8: the offer's start is the least there is, and 7 is answered exactly if there is none. Nothing here is taken from the search.
use Rattle.std.specs.Prelude.{ℕ, Bool, true, ◌≡◌, ◌⊎◌, ◌↔◌, ltb, ℤ, pos, ◌<ℤ◌}
use Rattle.units.specs.declared.Date.{Date}
use Rattle.units.specs.declared.Bundle.{Bundle}
use Rattle.units.specs.declared.Offer.{Offer}
use Rattle.units.specs.Logic.{all_of}
use Rattle.std.specs.Prelude.{Option}
use Rattle.contact.specs.Record.{end_rule}
use Rattle.bookings.specs.declared.BookingSegment.{BookingSegment}
use Rattle.bookings.specs.Listed.{value_of, level_at, listed}
use Rattle.pseg.specs.declared.PrioritySeg.{PrioritySeg}
use Rattle.earliest.specs.Start.{Start, Least}

-- the end rule of the record's edition from a tick, for the bundle's size; its deadline is the window's end
abbrev pub end_from : PrioritySeg → Bundle → ℕ → Option Date
end_from r b s = end_rule r.contact s b.size.0 r.contact.window.end.0

-- the value that is booked at a tick, -1 to 127: that of the listed segment which holds it (-1 where none does, which is outside the window)
abbrev pub value_at : PrioritySeg → ℕ → ℤ
value_at r u = value_of (record { 0 = level_at (listed r.bookings) u })

-- the ticks from which the record can send a bundle that is asked for at a time
abbrev pub StartIn : PrioritySeg → Date → Bundle → ℕ → Type 0
StartIn r at b =
    Start (end_from r b) (λ (u : ℕ). value_at r u <ℤ pos b.priority.0) r.contact.window.start.0 r.contact.window.end.0 at.0

-- the segment holds a tick
abbrev pub filled : BookingSegment → Bool
filled g = ltb g.start.0 g.end.0

-- 02's 'records without an empty segment'
abbrev pub NoEmpty : PrioritySeg → Type 0
NoEmpty r = all_of filled (listed r.bookings) ≡ true

-- the answer to a dry run: 0 at s exactly if s is the least start, 7 exactly if there is none, and no other number
pub record Earliest (r : PrioritySeg) (at : Date) (b : Bundle) (o : Offer) : Type 0 where
  pub offer : (s : ℕ) → ((o.number ≡ 0) × (o.dates.send.start.0 ≡ s)) ↔ (Least (StartIn r at b) s)
  pub none : (o.number ≡ 7) ↔ ((s : ℕ) → StartIn r at b s → ⊥)
  pub either : (o.number ≡ 0) ⊎ (o.number ≡ 7)
