-- `frames::calls::offer` meets its contract: the line's length first, then the dry run of what the layout gives.
use Rattle.frames.specs.Calls.{offer_frame}
use Rattle.frames.proofs.Lengths.{line_refused, line-answered}
use Rattle.frames.proofs.calls.offer.Goals as goal

pub returns-then-not-has : goal.returns-then-not-has
unfolding offer_frame
returns-then-not-has c = line_refused c.has.ensures _ _ c.if-not-has.true c.refused.ensures

pub returns : goal.returns
unfolding offer_frame
returns c =
    line-answered c.has.ensures _ _ c.if-not-has.false
    (rw (c.dry_run.ensures, c.bundle_at.ensures, c.date_at.ensures))
