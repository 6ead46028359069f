-- How the table's rows are run, by the definitions that the calls promise, and the claim: every answer is the table's.
use Rattle.std.specs.Prelude.{ℕ, ◌≡◌, List, [], ◌∷◌, map, pos, length, take}
use Rattle.units.specs.Limits.{segments_max}
use Rattle.units.specs.declared.Date.{Date}
use Rattle.units.specs.declared.Volume.{Volume}
use Rattle.units.specs.declared.Bundle.{Bundle}
use Rattle.units.specs.Arrays.{padded}
use Rattle.segmentation.specs.declared.RateSegment.{RateSegment}
use Rattle.segmentation.specs.declared.DelaySegment.{DelaySegment}
use Rattle.segmentation.specs.declared.VolumeSegment.{VolumeSegment}
use Rattle.contact.specs.Segments.{zero_delay}
use Rattle.free_list.specs.Cut.{listed as listed_free}
use Rattle.bookings.specs.declared.BookingSegment.{BookingSegment}
use Rattle.bookings.specs.Listed.{value_of, listed as listed_bookings}
use Rattle.seg.specs.declared.Opened.{Opened as FreeOpened}
use Rattle.seg.specs.declared.Listing.{Listing as FreeListing}
use Rattle.seg.specs.Open.{open_of as open_free}
use Rattle.seg.specs.List.{list_of as list_free}
use Rattle.pseg.specs.declared.Opened.{Opened as PriorityOpened}
use Rattle.pseg.specs.declared.Listing.{Listing as PriorityListing}
use Rattle.pseg.specs.Open.{open_of as open_priority}
use Rattle.pseg.specs.List.{list_of as list_priority}
use Rattle.poly_seg.specs.declared.Opened.{Opened as PolynomialOpened}
use Rattle.poly_seg.specs.declared.Listing.{Listing as PolynomialListing}
use Rattle.poly_seg.specs.Open.{open_of as open_polynomial}
use Rattle.poly_seg.specs.List.{list_of as list_polynomial}
use Rattle.legacy.specs.declared.Opened.{Opened as QueueOpened}
use Rattle.legacy.specs.declared.Listing.{Listing as QueueListing}
use Rattle.legacy.specs.Open.{classes_max, open_of as open_queue}
use Rattle.legacy.specs.List.{list_of as list_queue}
use Rattle.held.specs.declared.Held.{Held}
use Rattle.held.specs.declared.Held.TheVariants.{Nothing, Free, Priority, Polynomial, Queue}
use Rattle.held.specs.declared.Done.{Done}
use Rattle.held.specs.State.{nothing, kept}
use Rattle.held.specs.Calls.{dry_run_held, book_held}
use Rattle.cases.specs.Words.{Opening, Call, Row, Answer, Step, Case}
use Rattle.cases.specs.Words.{free, priority, polynomial, queue, dry_run, book, list, offer, done, rows, queues, rate, ◌⇒◌}

-- the figures in their arrays
abbrev pub rate_array : List RateSegment → List RateSegment
rate_array l = padded segments_max (rate 0 0 0) l

abbrev pub delay_array : List DelaySegment → List DelaySegment
delay_array l = padded segments_max zero_delay l

-- an opening's number, and what is held after it
unfoldable pub opening_of : Opening → Done
opening_of (free h w r d) =
    let o : FreeOpened = open_free h w (rate_array r) (length r) (delay_array d) (length d) in kept nothing o.number (Free o.manager)
opening_of (priority h w r d) =
    let o : PriorityOpened = open_priority h w (rate_array r) (length r) (delay_array d) (length d) in
    kept nothing o.number (Priority o.manager)
opening_of (polynomial h w c z d) =
    let o : PolynomialOpened = open_polynomial h w (record { coefficients = c; offset = record { 0 = z } }) (delay_array d) (length d) in
    kept nothing o.number (Polynomial o.manager)
opening_of (queue h w r d n f b) =
    let o : QueueOpened = open_queue h w (record { 0 = r }) (record { 0 = d }) n f (padded classes_max (record { 0 = 0 }) b) in
    kept nothing o.number (Queue o.manager)

abbrev pub volume_row : VolumeSegment → Row
volume_row g = record { start = g.start.0; end = g.end.0; value = pos g.volume.0 }

abbrev pub booking_row : BookingSegment → Row
booking_row g = record { start = g.start.0; end = g.end.0; value = value_of g.level }

abbrev pub size_of : Volume → ℕ
size_of q = q.0

-- the list of the record that is held
unfoldable pub list_of : Held → Answer
list_of Nothing = done 1
list_of (Free r) = let o : FreeListing = list_free r in rows o.number (map volume_row (listed_free o.list))
list_of (Priority r) = let o : PriorityListing = list_priority r in rows o.number (map booking_row (listed_bookings o.list))
list_of (Polynomial r) = let o : PolynomialListing = list_polynomial r in rows o.number (map volume_row (listed_free o.list))
list_of (Queue r) = let o : QueueListing = list_queue r in queues o.number (map size_of (take o.classes o.queues))

abbrev pub date : ℕ → Date
date t = record { 0 = t }

abbrev pub bundle : ℕ → ℕ → Bundle
bundle v p = record { size = record { 0 = v }; priority = record { 0 = p } }

-- a call's answer
unfoldable pub answer_of : Held → Call → Answer
answer_of h (dry_run t v p) = offer (dry_run_held h (date t) (bundle v p))
answer_of h (book t v p d) = done (book_held h (date t) (bundle v p) d).number
answer_of h list = list_of h

-- what is held after it
unfoldable pub next_of : Held → Call → Held
next_of h (dry_run t v p) = h
next_of h (book t v p d) = (book_held h (date t) (bundle v p) d).held
next_of h list = h

-- the answers to the calls in order, each on what the last one handed back
unfoldable pub answers_of : Held → List Step → List Answer
answers_of h [] = []
answers_of h ((c ⇒ a) ∷ l) = answer_of h c ∷ answers_of (next_of h c) l

-- and those of the table
unfoldable pub said_of : List Step → List Answer
said_of [] = []
said_of ((c ⇒ a) ∷ l) = a ∷ said_of l

-- of every row, the opening answers 0, and all calls are answered as the table says
unfoldable pub Holds : List Case → Type 0
Holds [] = Unit
Holds (c ∷ l) =
    ((opening_of c.opening).number ≡ 0) × (answers_of (opening_of c.opening).held c.steps ≡ said_of c.steps) × Holds l
