-- `bookings::cut::parts` meets its contract: each place of the segment beside the send interval leaves its parts.
use Rattle.std.proofs.Common.{sym}
use Rattle.units.proofs.Compare.{le-yes, le-not}
use Rattle.bookings.proofs.Forms.{parts-early, parts-late}
use Rattle.bookings.proofs.CutLaws.{cut-on}
use Rattle.bookings.proofs.cut.parts.Goals as goal
use Rattle.bookings.proofs.cut.parts.Goals.{then-le-via-then-le, then-le-via-else-le+then-le-2}

pub returns-then-le : goal.returns-then-le
returns-then-le c =
    elim c.then-le.branch [
      | then-le-via-then-le w ↦ sym (parts-early _ _ _ _ (le-yes _ _ _ c.le.ensures w.if-le.true))
      | then-le-via-else-le+then-le-2 w ↦ sym (parts-late _ _ _ _ (le-not _ _ _ c.le.ensures w.if-le.false) (le-yes _ _ _ w.le-else-le.ensures w.if-le-2.true))
    ]

pub returns : goal.returns
returns c =
    rw (c.then_some.ensures, c.then_some-2.ensures)
    (cut-on _ _ _ _ _ _ _ _ (le-not _ _ _ c.le.ensures c.if-le.false) (le-not _ _ _ c.le-else-le.ensures c.if-le-2.false) c.later.ensures c.sooner.ensures c.lt.ensures c.lt-2.ensures)
