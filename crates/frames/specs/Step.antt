-- 01, "The trace program": the frame kind decides the layout; a line of more than 2,048 digits, with another digit or kind, ff.
use Rattle.std.specs.Prelude.{ℕ, Bool, ◌||◌, List, leb, eqb, length}
use Rattle.units.specs.Logic.{both, pick, unless}
use Rattle.hexadecimal.specs.Digits.{clean_of, byte_at}
use Rattle.answer.specs.Lines.{number_line, offer_line}
use Rattle.held.specs.declared.Held.{Held}
use Rattle.held.specs.declared.Done.{Done}
use Rattle.frames.specs.declared.Stepped.{Stepped}
use Rattle.frames.specs.Opening.{no_frame, free_frame, priority_frame, polynomial_frame, queue_frame}
use Rattle.frames.specs.Calls.{offer_frame, book_frame, list_frame, enqueue_frame, dequeue_frame, room_frame}

-- a line has at most 2,048 digits
abbrev pub digits_max : ℕ
digits_max = 2048

-- no more digits than that, and nothing else
unfoldable pub is_line : List ℕ → Bool
is_line line = both (leb (length line) digits_max) (clean_of line)

-- what stands for kind n, else the rest of the table; 01 writes the kinds in hexadecimal: 10 is 16
unfoldable pub on : {A : Type 0} → ℕ → ℕ → A → A → A
on k n a rest = pick (eqb k n) a rest

-- the frames that can change what is held, each answered by its number; every other kind, ff
unfoldable pub change_of : ℕ → List ℕ → Held → Done
change_of k line h =
    on k 1 (free_frame line h)
    (on k 2 (priority_frame line h)
    (on k 3 (polynomial_frame line h)
    (on k 4 (queue_frame line h)
    (on k 17 (book_frame line h)
    (on k 19 (enqueue_frame line h)
    (on k 20 (dequeue_frame line h)
    (on k 33 (free_frame line h)
    (on k 34 (priority_frame line h)
    (on k 35 (polynomial_frame line h)
    (no_frame h))))))))))

-- the frames that only show what is held; every other kind, ff
unfoldable pub show_of : ℕ → List ℕ → Held → List ℕ
show_of k line h =
    on k 16 (offer_line (offer_frame line h))
    (on k 18 (list_frame line h)
    (on k 21 (room_frame line h)
    (number_line 255)))

-- the kinds of the first table
unfoldable pub changes : ℕ → Bool
changes k = eqb k 1 || (eqb k 2 || (eqb k 3 || (eqb k 4 || (eqb k 17 || (eqb k 19 || (eqb k 20 || (eqb k 33 || (eqb k 34 || eqb k 35))))))))

-- an answer of a number alone, and what is held after it
abbrev pub told : Done → List ℕ × Held
told d = (number_line d.number, d.held)

-- one line: the answer's line, and what is held after it
unfoldable pub step_of : List ℕ → Held → List ℕ × Held
step_of line h =
    let k = byte_at line 0 in
    unless (is_line line) (told (no_frame h)) (pick (changes k) (told (change_of k line h)) (show_of k line h, h))

-- as a result: the length of the answer's line, and what is held
abbrev pub stepped_of : List ℕ × Held → Stepped
stepped_of s = record { length = length s.0; held = s.1 }
