-- 01, "The trace program": the manager whose record is held answers; with none open, 01; frames 13/14 on another manager, 0c.
use Rattle.units.specs.declared.Date.{Date}
use Rattle.units.specs.declared.Bundle.{Bundle}
use Rattle.units.specs.declared.TxData.{TxData}
use Rattle.units.specs.declared.Offer.{Offer}
use Rattle.units.specs.Answer.{refused}
use Rattle.seg.specs.declared.Booked.{Booked as FreeBooked}
use Rattle.seg.specs.DryRun.{dry_run_of as dry_run_free}
use Rattle.seg.specs.Book.{book_of as book_free}
use Rattle.pseg.specs.declared.Booked.{Booked as PriorityBooked}
use Rattle.pseg.specs.DryRun.{dry_run_of as dry_run_priority}
use Rattle.pseg.specs.Book.{book_of as book_priority}
use Rattle.poly_seg.specs.declared.Booked.{Booked as PolynomialBooked}
use Rattle.poly_seg.specs.DryRun.{dry_run_of as dry_run_polynomial}
use Rattle.poly_seg.specs.Book.{book_of as book_polynomial}
use Rattle.legacy.specs.declared.Queue.{Queue as QueueRecord}
use Rattle.legacy.specs.declared.Booked.{Booked as QueueBooked}
use Rattle.legacy.specs.DryRun.{dry_run_of as dry_run_queue}
use Rattle.legacy.specs.Book.{book_of as book_queue}
use Rattle.legacy.specs.Queueing.{enqueue_of, dequeue_of}
use Rattle.held.specs.declared.Held.{Held}
use Rattle.held.specs.declared.Held.TheVariants.{Nothing, Free, Priority, Polynomial, Queue}
use Rattle.held.specs.declared.Done.{Done}
use Rattle.held.specs.State.{refused_call, kept}

-- frame 10's answer
unfoldable pub dry_run_held : Held → Date → Bundle → Offer
dry_run_held Nothing at b = refused 1
dry_run_held (Free r) at b = dry_run_free r at b
dry_run_held (Priority r) at b = dry_run_priority r at b
dry_run_held (Polynomial r) at b = dry_run_polynomial r at b
dry_run_held (Queue r) at b = dry_run_queue r at b

-- frame 11's
unfoldable pub book_held : Held → Date → Bundle → TxData → Done
book_held Nothing at b d = refused_call Nothing 1
book_held (Free r) at b d =
    let done : FreeBooked = book_free r at b d in kept (Free r) done.number (Free done.manager)
book_held (Priority r) at b d =
    let done : PriorityBooked = book_priority r at b d in kept (Priority r) done.number (Priority done.manager)
book_held (Polynomial r) at b d =
    let done : PolynomialBooked = book_polynomial r at b d in kept (Polynomial r) done.number (Polynomial done.manager)
book_held (Queue r) at b d =
    let done : QueueBooked = book_queue r at b d in kept (Queue r) done.number (Queue done.manager)

-- a call that only the queue manager has
unfoldable pub queueing_held : (QueueRecord → QueueBooked) → Held → Done
queueing_held call Nothing = refused_call Nothing 1
queueing_held call (Free r) = refused_call (Free r) 12
queueing_held call (Priority r) = refused_call (Priority r) 12
queueing_held call (Polynomial r) = refused_call (Polynomial r) 12
queueing_held call (Queue r) = let done : QueueBooked = call r in kept (Queue r) done.number (Queue done.manager)

-- frame 13's
abbrev pub enqueue_held : Held → Bundle → Done
enqueue_held h b = queueing_held (λ (r : QueueRecord). enqueue_of r b) h

-- frame 14's
abbrev pub dequeue_held : Held → Bundle → Done
dequeue_held h b = queueing_held (λ (r : QueueRecord). dequeue_of r b) h
