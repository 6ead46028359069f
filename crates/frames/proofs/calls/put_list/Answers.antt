-- `frames::calls::put_list` meets its contract: each manager's arm writes what the definition says of it.
use mathlib.Core.Path.{sym, ap, ◌∙◌}
use native.Mathlib.Omega.{arith}
use Rattle.seg.specs.declared.Listing.{Listing as FreeListing}
use Rattle.pseg.specs.declared.Listing.{Listing as PriorityListing}
use Rattle.poly_seg.specs.declared.Listing.{Listing as PolynomialListing}
use Rattle.legacy.specs.declared.Listing.{Listing as QueueListing}
use Rattle.answer.specs.Rows.{volume_text, booking_text, queue_text}
use Rattle.answer.specs.Lines.{number_line, volumes_line, bookings_line, queues_line}
use Rattle.frames.specs.Calls.{list_held}
use Rattle.frames.proofs.Few.{few-free, few-priority, few-polynomial, few-classes}
use Rattle.frames.proofs.Told.{stored-as, lent-line}
use Rattle.frames.proofs.calls.put_list.Goals as goal

pub shared_ref_as_front-rows : goal.shared_ref_as_front-rows
shared_ref_as_front-rows c = rw c.list-l.ensures (few-free _)

pub shared_ref_as_front-rows-in-Priority : goal.shared_ref_as_front-rows-in-Priority
shared_ref_as_front-rows-in-Priority c = rw c.list-l-in-Priority.ensures (few-priority _)

pub shared_ref_as_front-rows-in-Polynomial : goal.shared_ref_as_front-rows-in-Polynomial
shared_ref_as_front-rows-in-Polynomial c = rw c.list-l-in-Polynomial.ensures (few-polynomial _)

pub shared_ref_as_front-rows-in-Queue : goal.shared_ref_as_front-rows-in-Queue
shared_ref_as_front-rows-in-Queue c = rw c.list-l-in-Queue.ensures (few-classes _)

pub returns-in-Nothing : goal.returns-in-Nothing
unfolding list_held
returns-in-Nothing c =
    stored-as _ (ap number_line c.number.ensures ∙ ap list_held (sym c.in-Nothing.is)) c.put_number.ensures

pub returns-in-Free : goal.returns-in-Free
unfolding list_held
returns-in-Free c =
    stored-as _
    (lent-line volume_text _ _ _ 64 (rw c.list-l.ensures (few-free _)) (omega arith) ∙ ap (λ (l : FreeListing). volumes_line l.number l.list) c.list-l.ensures ∙ ap list_held (sym c.in-Free.is))
    c.put_list.ensures

pub returns-in-Priority : goal.returns-in-Priority
unfolding list_held
returns-in-Priority c =
    stored-as _
    (lent-line booking_text _ _ _ 64 (rw c.list-l-in-Priority.ensures (few-priority _)) (omega arith) ∙ ap (λ (l : PriorityListing). bookings_line l.number l.list) c.list-l-in-Priority.ensures ∙ ap list_held (sym c.in-Priority.is))
    c.put_list-in-Priority.ensures

pub returns-in-Polynomial : goal.returns-in-Polynomial
unfolding list_held
returns-in-Polynomial c =
    stored-as _
    (lent-line volume_text _ _ _ 64 (rw c.list-l-in-Polynomial.ensures (few-polynomial _)) (omega arith) ∙ ap (λ (l : PolynomialListing). volumes_line l.number l.list) c.list-l-in-Polynomial.ensures ∙ ap list_held (sym c.in-Polynomial.is))
    c.put_list-in-Polynomial.ensures

pub returns-in-Queue : goal.returns-in-Queue
unfolding list_held
returns-in-Queue c =
    stored-as _
    (lent-line queue_text _ _ _ 8 (rw c.list-l-in-Queue.ensures (few-classes _)) (omega arith) ∙ ap (λ (l : QueueListing). queues_line l.number l.classes l.queues) c.list-l-in-Queue.ensures ∙ ap list_held (sym c.in-Queue.is))
    c.put_list-in-Queue.ensures
