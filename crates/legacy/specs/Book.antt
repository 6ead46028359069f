-- 01, "Refusal numbers", Booking at the queue manager, and 02, R-7: 1, 2, 9, 17, then 13; a booking enqueues only under self-update.
use Rattle.units.specs.declared.Date.{Date}
use Rattle.units.specs.declared.TxData.{TxData}
use Rattle.units.specs.declared.Bundle.{Bundle}
use Rattle.units.specs.Logic.{pick}
use Rattle.units.specs.Limits.{bundle_ok}
use Rattle.units.specs.Answer.{offers, booking_of}
use Rattle.units.specs.Strict.{forbids}
use Rattle.legacy.specs.declared.Queue.{Queue}
use Rattle.legacy.specs.declared.Booked.{Booked}
use Rattle.legacy.specs.Record.{strict_of, record_ok}
use Rattle.legacy.specs.DryRun.{dry_run_of}
use Rattle.legacy.specs.Queueing.{refused_queueing, enqueue_at}

-- the booking
unfoldable pub book_of : Queue → Date → Bundle → TxData → Booked
book_of r at b d =
    booking_of (record_ok r) (bundle_ok at b) (offers (dry_run_of r at b) d) (forbids (strict_of r) d.send) (λ n. refused_queueing n r)
    (pick r.flags.self_update (enqueue_at r b) (record { number = 0; manager = r }))
