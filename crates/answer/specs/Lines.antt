-- 01, "The trace program", Answer: the number in one byte, what stands after it, and the line end, which is 10.
use Rattle.std.specs.Prelude.{ℕ, List, [], ◌∷◌, ◌++◌, eqb, take}
use Rattle.units.specs.declared.Offer.{Offer}
use Rattle.units.specs.declared.Volume.{Volume}
use Rattle.units.specs.Logic.{pick}
use Rattle.free_list.specs.declared.FreeList.{FreeList}
use Rattle.free_list.specs.Cut.{listed}
use Rattle.bookings.specs.declared.Bookings.{Bookings}
use Rattle.text.specs.Text.{byte_text, number_text, dates_text, list_text}
use Rattle.answer.specs.Rows.{volume_text, booking_text, booked_rows, queue_text}

abbrev pub line_end : List ℕ
line_end = 10 ∷ []

-- the number in one byte
unfoldable pub number_line : ℕ → List ℕ
number_line n = byte_text n ++ line_end

-- after a dry run's 0, four dates
unfoldable pub offer_line : Offer → List ℕ
offer_line o = pick (eqb o.number 0) (byte_text 0 ++ (dates_text o.dates ++ line_end)) (number_line o.number)

-- after 12's 0, a count and the rows
unfoldable pub list_line : ℕ → ℕ → List ℕ → List ℕ
list_line number count rows = pick (eqb number 0) (byte_text 0 ++ (byte_text count ++ (rows ++ line_end))) (number_line number)

-- (start, end, volume)s
abbrev pub volumes_line : ℕ → FreeList → List ℕ
volumes_line number l = list_line number l.count (list_text volume_text (listed l))

-- (start, end, priority)s
abbrev pub bookings_line : ℕ → Bookings → List ℕ
bookings_line number l = list_line number l.count (list_text booking_text (booked_rows l))

-- the class count and each class's queue
abbrev pub queues_line : ℕ → ℕ → List Volume → List ℕ
queues_line number classes queues = list_line number classes (list_text queue_text (take classes queues))

-- after 15's 0, the room in 8 bytes (02, R-1)
unfoldable pub room_line : ℕ → Volume → List ℕ
room_line number room = pick (eqb number 0) (byte_text 0 ++ (number_text room.0 ++ line_end)) (number_line number)
