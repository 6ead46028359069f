-- `pseg::PrioritySeg::book_here` meets its contract: refused as the flag and the dry run's answer tell, else the list is set where it stands.
use Rattle.std.proofs.lemmas.Result.{err_from_is_err_and}
use Rattle.bookings.proofs.Covered.{cover-follows}
use Rattle.pseg.proofs.Facts.{facts}
use Rattle.pseg.proofs.ByDryRun.{check-refused, check-done, set-booked}
use Rattle.pseg.proofs.PrioritySeg.book_here.Goals as goal

pub returns-in_err-check : goal.returns-in_err-check
returns-in_err-check c =
    let p = err_from_is_err_and c.from_residual.result c.from_residual.ensures.1 in
    rw (p.1, p.2) (check-refused _ _ _ _ c.requires.kept _ c.offer.ensures _ c.in_err-check.ensures)

pub set-requires : goal.set-requires
set-requires c =
    let q = facts _ c.requires.kept in
    record { few = q.few; follows = cover-follows _ _ _ q.cover; unused = q.unused }

pub returns : goal.returns
returns c =
    let none = check-done _ _ _ _ c.requires.kept _ c.offer.ensures c.in_ok-check.ensures in
    set-booked _ _ _ _ c.requires.kept none _ (rw c.from-level.ensures at c.set.ensures)
