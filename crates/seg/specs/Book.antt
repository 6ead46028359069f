-- 01, "Refusal numbers", Booking, and 02, R-7: 1, 2, 9, 17, then 10; a refusal hands the record back as it came.
use Rattle.std.specs.Prelude.{ℕ, eqb}
use Rattle.units.specs.declared.Date.{Date}
use Rattle.units.specs.declared.Interval.{Interval}
use Rattle.units.specs.declared.TxData.{TxData}
use Rattle.units.specs.declared.Bundle.{Bundle}
use Rattle.units.specs.Logic.{unless}
use Rattle.units.specs.Limits.{bundle_ok}
use Rattle.units.specs.Answer.{offers, booking_of}
use Rattle.units.specs.Strict.{forbids}
use Rattle.free_list.specs.declared.Fit.{Fit}
use Rattle.std.specs.Prelude.{Option, Some, None}
use Rattle.free_list.specs.declared.Cut.{Cut}
use Rattle.free_list.specs.Cut.{list_cut}
use Rattle.seg.specs.declared.FreeVolume.{FreeVolume}
use Rattle.seg.specs.declared.Booked.{Booked}
use Rattle.contact.specs.Record.{rates_of, edition_of, strict_of}
use Rattle.seg.specs.Record.{record_ok, with_free}
use Rattle.seg.specs.DryRun.{dry_run_of, found_of}

abbrev pub refused_booking : ℕ → FreeVolume → Booked
refused_booking n r = record { number = n; manager = r }

-- what a booking leaves of the record's list, or 10 and the list as it came
abbrev pub cut_free : FreeVolume → ℕ → Interval → ℕ → Cut
cut_free r i send v = list_cut (edition_of r.contact) (rates_of r.contact) r.free i send.start.0 send.end.0 v

-- the record with the segment at a place cut, or 10 and the record as it came
abbrev pub booked_of : FreeVolume → ℕ → Interval → ℕ → Booked
booked_of r i send v =
    let done : Cut = cut_free r i send v in
    unless (eqb done.number 0) (refused_booking done.number r) (record { number = 0; manager = with_free r done.list })

-- the cut at what the dry run found
abbrev pub booked_at : FreeVolume → Option Fit → ℕ → Booked
booked_at r (Some x) v = booked_of r x.place x.send v
booked_at r None v = refused_booking 9 r

-- the booking
unfoldable pub book_of : FreeVolume → Date → Bundle → TxData → Booked
book_of r at b d =
    booking_of (record_ok r) (bundle_ok at b) (offers (dry_run_of r at b) d) (forbids (strict_of r.contact) d.send) (λ n. refused_booking n r)
    (booked_at r (found_of r at.0 b.size.0) b.size.0)
