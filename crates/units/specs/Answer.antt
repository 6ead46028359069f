-- 01, "Refusal numbers": an answer is a number and four dates; a refusal has zero dates.
use Rattle.std.specs.Prelude.{ℕ, ◌+◌, Bool, eqb}
use Rattle.units.specs.declared.Interval.{Interval}
use Rattle.units.specs.declared.TxData.{TxData}
use Rattle.units.specs.declared.Offer.{Offer}
use Rattle.units.specs.Logic.{both, unless, pick}

abbrev pub interval : ℕ → ℕ → Interval
interval a b = record { start = record { 0 = a }; end = record { 0 = b } }

-- the refusal with this number
abbrev pub refused : ℕ → Offer
refused n = record { number = n; dates = record { send = interval 0 0; recv = interval 0 0 } }

-- the offer to send from s to e, received a later at its start and b later at its end
abbrev pub offered : ℕ → ℕ → ℕ → ℕ → Offer
offered s e a b = record { number = 0; dates = record { send = interval s e; recv = interval (s + a) (e + b) } }

unfoldable pub same_dates : TxData → TxData → Bool
same_dates a b =
    both (eqb a.send.start.0 b.send.start.0)
    (both (eqb a.send.end.0 b.send.end.0)
    (both (eqb a.recv.start.0 b.recv.start.0)
    (eqb a.recv.end.0 b.recv.end.0)))

-- refusal 9 is given unless the dry run answers 0 with these four dates
unfoldable pub offers : Offer → TxData → Bool
offers o d = both (eqb o.number 0) (same_dates o.dates d)

-- a booking, in order: 1 for the record, 2 for the bundle, 9 unless it is the offer, 02's 17 where the flag forbids it, then what the manager does
abbrev pub booking_of : {A : Type 0} → Bool → Bool → Bool → Bool → (ℕ → A) → A → A
booking_of kept fits same forbidden refuse done =
    unless kept (refuse 1) (unless fits (refuse 2) (unless same (refuse 9) (pick forbidden (refuse 17) done)))
