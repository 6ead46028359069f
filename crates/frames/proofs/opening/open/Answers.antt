-- `frames::opening::open` meets its contract: the line's length first, then what the layout gives is opened and kept.
use Rattle.frames.specs.Opening.{opening_frame}
use Rattle.frames.proofs.Lengths.{line_refused, line-answered}
use Rattle.frames.proofs.opening.open.Goals as goal

pub returns-then-not-fits : goal.returns-then-not-fits
unfolding opening_frame
returns-then-not-fits g c = line_refused c.fits.ensures _ _ c.if-not-fits.true c.refused.ensures

pub returns : goal.returns
unfolding opening_frame
returns g c =
    line-answered c.fits.ensures _ _ c.if-not-fits.false (rw (c.kept.ensures, c.opened-o.ensures.is))
