-- `frames::calls::book` meets its contract: the line's length first, then what the layout gives is booked.
use Rattle.frames.specs.Calls.{book_frame}
use Rattle.frames.proofs.Lengths.{line_refused, line-answered}
use Rattle.frames.proofs.calls.book.Goals as goal

pub returns-then-not-has : goal.returns-then-not-has
unfolding book_frame
returns-then-not-has c = line_refused c.has.ensures _ _ c.if-not-has.true c.refused.ensures

pub returns : goal.returns
unfolding book_frame
returns c =
    line-answered c.has.ensures _ _ c.if-not-has.false
    (rw (c.book.ensures, c.dates_at.ensures, c.bundle_at.ensures, c.date_at.ensures))
