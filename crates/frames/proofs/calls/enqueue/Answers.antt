-- `frames::calls::enqueue` meets its contract: the line's length first, then what the layout gives is enqueued.
use Rattle.frames.specs.Calls.{enqueue_frame}
use Rattle.frames.proofs.Lengths.{line_refused, line-answered}
use Rattle.frames.proofs.calls.enqueue.Goals as goal

pub returns-then-not-has : goal.returns-then-not-has
unfolding enqueue_frame
returns-then-not-has c = line_refused c.has.ensures _ _ c.if-not-has.true c.refused.ensures

pub returns : goal.returns
unfolding enqueue_frame
returns c =
    line-answered c.has.ensures _ _ c.if-not-has.false (rw (c.enqueue.ensures, c.bundle_at.ensures))
