-- `bookings::cover_ok` meets its contract: what is left of the list covers what is left of the window.
use Rattle.std.proofs.Common.{sym, ◌∙◌}
use Rattle.bookings.proofs.CoverLaws.{cover-end, cover-fails, cover-on}
use Rattle.bookings.proofs.cover_ok.Goals as goal

pub returns-then-not-follows : goal.returns-then-not-follows
returns-then-not-follows c =
    sym (cover-fails _ _ _ _ _ c.loop-g.invariant _ c.loop-g-test.true (sym c.follows.ensures ∙ c.if-not-follows.true))

pub loop-g-preserved : goal.loop-g-preserved
loop-g-preserved c =
    cover-on _ _ _ _ _ c.loop-g.invariant _ c.loop-g-test.true (sym c.follows.ensures ∙ c.if-not-follows.false)

pub returns : goal.returns
returns c = c.eq.ensures ∙ sym (cover-end _ _ _ _ _ c.loop-g.invariant c.loop-g-test.false)
