-- 01, "Refusal numbers", Booking, and 02, R-7: 1, 2, 9, 17, then 10; cutting as the free-volume manager's, without volumes.
use Rattle.std.specs.Prelude.{ℕ, [], Option, Some, None}
use Rattle.units.specs.declared.Date.{Date}
use Rattle.units.specs.declared.Interval.{Interval}
use Rattle.units.specs.declared.TxData.{TxData}
use Rattle.units.specs.declared.Bundle.{Bundle}
use Rattle.units.specs.Limits.{bundle_ok}
use Rattle.units.specs.Answer.{offers, booking_of}
use Rattle.units.specs.Strict.{forbids}
use Rattle.free_list.specs.declared.Fit.{Fit}
use Rattle.free_list.specs.declared.FreeList.{FreeList}
use Rattle.free_list.specs.declared.Cut.{Cut}
use Rattle.free_list.specs.Cut.{list_cut}
use Rattle.poly_seg.specs.declared.PolySeg.{PolySeg}
use Rattle.poly_seg.specs.declared.Booked.{Booked}
use Rattle.poly_seg.specs.Record.{strict_of, record_ok}
use Rattle.poly_seg.specs.DryRun.{dry_run_of, found_of}

abbrev pub refused_booking : ℕ → PolySeg → Booked
refused_booking n r = record { number = n; manager = r }

-- the record with another free list
abbrev pub with_free : PolySeg → FreeList → PolySeg
with_free r f =
    record { choices = r.choices; window = r.window; polynome = r.polynome; delays = r.delays; delay_count = r.delay_count; free = f }

-- what a booking leaves of the record's list, or 10 and the list as it came; no rates and no size, so no volumes
abbrev pub cut_free : PolySeg → ℕ → Interval → Cut
cut_free r i send = list_cut 1 [] r.free i send.start.0 send.end.0 0

-- the record with the segment at a place cut, or 10 and the record as it came
abbrev pub booked_of : PolySeg → ℕ → Interval → Booked
booked_of r i send =
    let done : Cut = cut_free r i send in
    record { number = done.number; manager = with_free r done.list }

-- the cut at what the dry run found
abbrev pub booked_at : PolySeg → Option Fit → Booked
booked_at r (Some x) = booked_of r x.place x.send
booked_at r None = refused_booking 9 r

-- the booking
unfoldable pub book_of : PolySeg → Date → Bundle → TxData → Booked
book_of r at b d =
    booking_of (record_ok r) (bundle_ok at b) (offers (dry_run_of r at b) d) (forbids (strict_of r) d.send) (λ n. refused_booking n r)
    (booked_at r (found_of r at.0 b.size.0))
