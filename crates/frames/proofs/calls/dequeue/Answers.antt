-- `frames::calls::dequeue` meets its contract: the line's length first, then what the layout gives is dequeued.
use Rattle.frames.specs.Calls.{dequeue_frame}
use Rattle.frames.proofs.Lengths.{line_refused, line-answered}
use Rattle.frames.proofs.calls.dequeue.Goals as goal

pub returns-then-not-has : goal.returns-then-not-has
unfolding dequeue_frame
returns-then-not-has c = line_refused c.has.ensures _ _ c.if-not-has.true c.refused.ensures

pub returns : goal.returns
unfolding dequeue_frame
returns c =
    line-answered c.has.ensures _ _ c.if-not-has.false (rw (c.dequeue.ensures, c.bundle_at.ensures))
