-- `contact::span::covers` meets its contract: from the date reached on, the segments left have the answer of all.
use mathlib.Core.Path.{sym, ◌∙◌}
use Rattle.contact.proofs.Spans.{left-end, left-stop, left-on}
use Rattle.contact.proofs.span.covers.Goals as goal

pub returns-then-not-follows : goal.returns-then-not-follows
returns-then-not-follows g c =
    sym (left-stop _ _ _ _ _ _ c.loop-s.invariant c.s-item.result c.loop-s-test.true c.s-item.is (sym c.follows.ensures ∙ c.if-not-follows.true))

pub loop-s-preserved : goal.loop-s-preserved
loop-s-preserved g c =
    rw c.dates.ensures (left-on _ _ _ _ _ _ c.loop-s.invariant c.s-item.result c.loop-s-test.true c.s-item.is (sym c.follows.ensures ∙ c.if-not-follows.false))

pub returns : goal.returns
returns g c = c.eq.ensures ∙ sym (left-end _ _ _ _ _ _ c.loop-s.invariant c.loop-s-test.false)
