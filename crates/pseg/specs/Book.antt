-- 01, "Refusal numbers", Booking, and 02, R-7: 1, 2, 9, 17, then 10; a refusal hands the record back as it came.
use Rattle.std.specs.Prelude.{ℕ, ◌+◌}
use Rattle.units.specs.declared.Date.{Date}
use Rattle.units.specs.declared.Interval.{Interval}
use Rattle.units.specs.declared.TxData.{TxData}
use Rattle.units.specs.declared.Bundle.{Bundle}
use Rattle.units.specs.Limits.{bundle_ok}
use Rattle.units.specs.Answer.{offers, booking_of}
use Rattle.units.specs.Strict.{forbids}
use Rattle.contact.specs.Record.{strict_of}
use Rattle.bookings.specs.Search.{Run}
use Rattle.std.specs.declared.ops.ControlFlow.TheVariants.{Continue, Break}
use Rattle.bookings.specs.declared.Set.{Set}
use Rattle.bookings.specs.Cut.{set_bookings}
use Rattle.pseg.specs.declared.PrioritySeg.{PrioritySeg}
use Rattle.pseg.specs.declared.Booked.{Booked}
use Rattle.pseg.specs.Record.{record_ok}
use Rattle.pseg.specs.DryRun.{dry_run_of, run_of}

abbrev pub refused_booking : ℕ → PrioritySeg → Booked
refused_booking n r = record { number = n; manager = r }

-- the record's list with the send interval set to a priority, whose level is one above it; or 10 and the list as it came
abbrev pub set_list : PrioritySeg → Interval → ℕ → Set
set_list r send p = set_bookings r.bookings send.start.0 send.end.0 (p + 1)

-- the record with the send interval set to a priority, or 10 and the record as it came
abbrev pub booked_of : PrioritySeg → Interval → ℕ → Booked
booked_of r send p =
    let done : Set = set_list r send p in
    record { number = done.number; manager = record { contact = r.contact; bookings = done.bookings } }

-- the send interval that the dry run found is set to the priority
abbrev pub booked_at : PrioritySeg → Run → ℕ → Booked
booked_at r (Break send) p = booked_of r send p
booked_at r (Continue now) p = refused_booking 9 r

-- the booking
unfoldable pub book_of : PrioritySeg → Date → Bundle → TxData → Booked
book_of r at b d =
    booking_of (record_ok r) (bundle_ok at b) (offers (dry_run_of r at b) d) (forbids (strict_of r.contact) d.send) (λ n. refused_booking n r)
    (booked_at r (run_of r at.0 b) b.priority.0)
