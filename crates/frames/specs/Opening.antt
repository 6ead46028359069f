-- 01, "The trace program", frames 01 to 04, and 02, R-4, frames 21 to 23: what the layout gives is opened; a line of another length, ff.
use Rattle.std.specs.Prelude.{ℕ, Bool, List}
use Rattle.units.specs.Logic.{unless}
use Rattle.segmentation.specs.declared.Rule.{Rule}
use Rattle.contact.specs.declared.Choices.{Choices}
use Rattle.contact.specs.Choices.{ported}
use Rattle.poly_seg.specs.declared.Choices.{Choices as PolynomialChoices}
use Rattle.poly_seg.specs.Choices.{ported as ported_polynomial}
use Rattle.seg.specs.declared.Opened.{Opened as FreeOpened}
use Rattle.seg.specs.Open.{open_of as open_free}
use Rattle.pseg.specs.declared.Opened.{Opened as PriorityOpened}
use Rattle.pseg.specs.Open.{open_of as open_priority}
use Rattle.poly_seg.specs.declared.Opened.{Opened as PolynomialOpened}
use Rattle.poly_seg.specs.Open.{open_of as open_polynomial}
use Rattle.legacy.specs.declared.Opened.{Opened as QueueOpened}
use Rattle.legacy.specs.Choices.{ported as ported_queue}
use Rattle.legacy.specs.Open.{open_of as open_queue}
use Rattle.layout.specs.declared.opening.Opening.{Opening}
use Rattle.layout.specs.declared.polynomial.PolynomialOpening.{PolynomialOpening}
use Rattle.layout.specs.declared.queue.QueueOpening.{QueueOpening}
use Rattle.layout.specs.Fields.{has_bytes}
use Rattle.layout.specs.Opening.{opening_length, opening_of}
use Rattle.layout.specs.Polynomial.{polynomial_length, polynomial_of}
use Rattle.layout.specs.Queue.{is_queue, queue_of}
use Rattle.held.specs.declared.Held.{Held}
use Rattle.held.specs.declared.Done.{Done}
use Rattle.held.specs.declared.Held.TheVariants.{Free, Priority, Polynomial, Queue}
use Rattle.held.specs.State.{refused_call, kept}

-- a line that is no frame is answered ff, and what is held stays
abbrev pub no_frame : Held → Done
no_frame h = refused_call h 255

-- a line of the right length is opened, and a refused opening keeps the old record
unfoldable pub opening_frame : (List ℕ → Bool) → (List ℕ → Done) → List ℕ → Held → Done
opening_frame of_length opening line h =
    let o : Done = opening line in unless (of_length line) (no_frame h) (kept h o.number o.held)

-- a frame states its delay rule, and nothing else of what an opening chooses
abbrev pub choosing : Rule → Choices
choosing rule = record { edition = ported.edition; rule = rule; strict = ported.strict }

abbrev pub choosing_polynomial : Rule → PolynomialChoices
choosing_polynomial rule = record { mode = ported_polynomial.mode; rule = rule; strict = ported_polynomial.strict }

-- the free-volume opening with the frame's figures
unfoldable pub free_opened : Opening → FreeOpened
free_opened f = open_free (choosing f.rule) f.window f.rates f.rate_count f.delays f.delay_count

-- as a call's answer: the record is what is held
abbrev pub free_done : List ℕ → Done
free_done line = let o : FreeOpened = free_opened (opening_of line) in record { number = o.number; held = Free o.manager }

-- 01 and 21
abbrev pub free_frame : List ℕ → Held → Done
free_frame line h = opening_frame (λ (l : List ℕ). has_bytes l (opening_length l)) free_done line h

-- the priority opening with the same figures
unfoldable pub priority_opened : Opening → PriorityOpened
priority_opened f = open_priority (choosing f.rule) f.window f.rates f.rate_count f.delays f.delay_count

abbrev pub priority_done : List ℕ → Done
priority_done line = let o : PriorityOpened = priority_opened (opening_of line) in record { number = o.number; held = Priority o.manager }

-- 02 and 22
abbrev pub priority_frame : List ℕ → Held → Done
priority_frame line h = opening_frame (λ (l : List ℕ). has_bytes l (opening_length l)) priority_done line h

-- the polynomial opening with the frame's figures
unfoldable pub polynomial_opened : PolynomialOpening → PolynomialOpened
polynomial_opened f = open_polynomial (choosing_polynomial f.rule) f.window f.polynome f.delays f.delay_count

abbrev pub polynomial_done : List ℕ → Done
polynomial_done line = let o : PolynomialOpened = polynomial_opened (polynomial_of line) in record { number = o.number; held = Polynomial o.manager }

-- 03 and 23
abbrev pub polynomial_frame : List ℕ → Held → Done
polynomial_frame line h = opening_frame (λ (l : List ℕ). has_bytes l (polynomial_length l)) polynomial_done line h

-- the queue opening with the frame's figures
unfoldable pub queue_opened : QueueOpening → QueueOpened
queue_opened f = open_queue ported_queue f.window f.rate f.delay f.classes f.flags f.budgets

abbrev pub queue_done : List ℕ → Done
queue_done line = let o : QueueOpened = queue_opened (queue_of line) in record { number = o.number; held = Queue o.manager }

-- 04; flags above 7 are no frame
abbrev pub queue_frame : List ℕ → Held → Done
queue_frame line h = opening_frame is_queue queue_done line h
