-- Which frame a line is, as the trace program sorts its lines: by its digits, its kind and the length that its kind asks. `frames::step` does not rest on it; proofs/Sorted shows that it sorts as 01's step does.
use Rattle.std.specs.Prelude.{ℕ, Bool, List, eqb, Option, None, Some}
use Rattle.units.specs.Logic.{pick, unless}
use Rattle.legacy.specs.declared.Queue.{Queue as QueueRecord}
use Rattle.legacy.specs.declared.Booked.{Booked}
use Rattle.legacy.specs.Queueing.{enqueue_of, dequeue_of}
use Rattle.hexadecimal.specs.Digits.{byte_at}
use Rattle.layout.specs.Fields.{bundle_at, has_bytes}
use Rattle.layout.specs.Opening.{opening_length}
use Rattle.layout.specs.Polynomial.{polynomial_length}
use Rattle.layout.specs.Queue.{is_queue}
use Rattle.frames.specs.declared.frame.Frame.{Frame}
use Rattle.frames.specs.declared.frame.Frame.TheVariants.{Free, Priority, Polynomial, Queue, Offer, Booking, Listing, Queueing, Room}
use Rattle.frames.specs.Step.{is_line, on}

-- the frame, if its line passed its test
abbrev pub when_of : Bool → Frame → Option Frame
when_of fits f = unless fits None (Some f)

-- the kinds and their lengths
unfoldable pub kind_frame : ℕ → List ℕ → Option Frame
kind_frame k line =
    on k 1 (when_of (has_bytes line (opening_length line)) Free)
    (on k 2 (when_of (has_bytes line (opening_length line)) Priority)
    (on k 3 (when_of (has_bytes line (polynomial_length line)) Polynomial)
    (on k 4 (when_of (is_queue line) Queue)
    (on k 16 (when_of (has_bytes line 18) Offer)
    (on k 17 (when_of (has_bytes line 50) Booking)
    (on k 18 (when_of (has_bytes line 1) Listing)
    (on k 19 (when_of (has_bytes line 10) Queueing)
    (on k 20 (when_of (has_bytes line 10) Queueing)
    (on k 21 (when_of (has_bytes line 1) Room)
    (on k 33 (when_of (has_bytes line (opening_length line)) Free)
    (on k 34 (when_of (has_bytes line (opening_length line)) Priority)
    (on k 35 (when_of (has_bytes line (polynomial_length line)) Polynomial)
    None))))))))))))

unfoldable pub frame_of : List ℕ → Option Frame
frame_of line = unless (is_line line) None (kind_frame (byte_at line 0) line)

-- 13 is enqueue, 14 dequeue
unfoldable pub queueing_of : List ℕ → QueueRecord → Booked
queueing_of line r = pick (eqb (byte_at line 0) 19) (enqueue_of r (bundle_at line 1)) (dequeue_of r (bundle_at line 1))
