-- 01, "The trace program", frames 10 to 15: a line of another length, ff; else the manager whose record is held answers.
use Rattle.std.specs.Prelude.{ℕ, List}
use Rattle.units.specs.declared.Offer.{Offer}
use Rattle.units.specs.Logic.{unless}
use Rattle.units.specs.Answer.{refused}
use Rattle.seg.specs.declared.Listing.{Listing as FreeListing}
use Rattle.seg.specs.List.{list_of as list_free}
use Rattle.seg.specs.declared.RoomLeft.{RoomLeft}
use Rattle.seg.specs.Room.{room_answer}
use Rattle.pseg.specs.declared.Listing.{Listing as PriorityListing}
use Rattle.pseg.specs.List.{list_of as list_priority}
use Rattle.poly_seg.specs.declared.Listing.{Listing as PolynomialListing}
use Rattle.poly_seg.specs.List.{list_of as list_polynomial}
use Rattle.legacy.specs.declared.Listing.{Listing as QueueListing}
use Rattle.legacy.specs.List.{list_of as list_queue}
use Rattle.layout.specs.Fields.{date_at, dates_at, bundle_at, has_bytes}
use Rattle.answer.specs.Lines.{number_line, volumes_line, bookings_line, queues_line, room_line}
use Rattle.held.specs.declared.Held.{Held}
use Rattle.held.specs.declared.Held.TheVariants.{Nothing, Free, Priority, Polynomial, Queue}
use Rattle.held.specs.declared.Done.{Done}
use Rattle.held.specs.Calls.{dry_run_held, book_held, enqueue_held, dequeue_held}
use Rattle.frames.specs.Opening.{no_frame}

-- 10, dry run: time, size, priority
unfoldable pub offer_frame : List ℕ → Held → Offer
offer_frame line h = unless (has_bytes line 18) (refused 255) (dry_run_held h (date_at line 1) (bundle_at line 9))

-- 11, booking: the same, send start, send end, receive start, receive end
unfoldable pub book_frame : List ℕ → Held → Done
book_frame line h = unless (has_bytes line 50) (no_frame h) (book_held h (date_at line 1) (bundle_at line 9) (dates_at line 18))

-- 13, enqueue: size, priority
unfoldable pub enqueue_frame : List ℕ → Held → Done
enqueue_frame line h = unless (has_bytes line 10) (no_frame h) (enqueue_held h (bundle_at line 1))

-- 14, dequeue: size, priority
unfoldable pub dequeue_frame : List ℕ → Held → Done
dequeue_frame line h = unless (has_bytes line 10) (no_frame h) (dequeue_held h (bundle_at line 1))

-- with none open, 01; else the list of the record that is held, as its manager lists it
unfoldable pub list_held : Held → List ℕ
list_held Nothing = number_line 1
list_held (Free r) = let l : FreeListing = list_free r in volumes_line l.number l.list
list_held (Priority r) = let l : PriorityListing = list_priority r in bookings_line l.number l.list
list_held (Polynomial r) = let l : PolynomialListing = list_polynomial r in volumes_line l.number l.list
list_held (Queue r) = let l : QueueListing = list_queue r in queues_line l.number l.classes l.queues

-- 12, list
unfoldable pub list_frame : List ℕ → Held → List ℕ
list_frame line h = unless (has_bytes line 1) (number_line 255) (list_held h)

-- with none open, 01; the room of a free-volume record (02, R-1); on another manager, 0c
unfoldable pub room_held : Held → List ℕ
room_held Nothing = number_line 1
room_held (Free r) = let a : RoomLeft = room_answer r in room_line a.number a.room
room_held (Priority r) = number_line 12
room_held (Polynomial r) = number_line 12
room_held (Queue r) = number_line 12

-- 15, room
unfoldable pub room_frame : List ℕ → Held → List ℕ
room_frame line h = unless (has_bytes line 1) (number_line 255) (room_held h)
