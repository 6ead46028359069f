-- `contact::test::volumes_ok` meets its contract: with the date reached and the volume left, the segments left have the answer of all.
use Rattle.std.proofs.Common.{sym, ◌∙◌, arith}
use Rattle.units.proofs.Loop.{at-whole, left_end, left_here, left_step}
use Rattle.contact.proofs.Volumes.{takes, taken-end, taken-stop, taken-go, taken_is}
use Rattle.contact.proofs.test.volumes_ok.Goals as goal

pub overflow_sub-room : goal.overflow_sub-room
overflow_sub-room c =
    omega (arith, (takes _ _ _ (sym c.takes.ensures ∙ c.if-not-takes.false)).within)

pub loop-s-preserved : goal.loop-s-preserved
loop-s-preserved c =
    left_step _ _ _ _ _ _ c.loop-s.invariant _ (at-whole _ _ _ c.loop-s-test.true) c.loop-s-test.true _ (taken-go _ _ _ _ (sym c.takes.ensures ∙ c.if-not-takes.false))

pub returns-then-not-takes : goal.returns-then-not-takes
returns-then-not-takes c =
    sym (taken_is _ _
    ∙ left_here _ _ _ _ _ _ c.loop-s.invariant _ (at-whole _ _ _ c.loop-s-test.true)
    ∙ taken-stop _ _ _ _ (sym c.takes.ensures ∙ c.if-not-takes.true))

pub returns : goal.returns
returns c =
    c.eq.ensures ∙ sym (taken_is _ _ ∙ left_end _ _ _ _ _ _ c.loop-s.invariant c.loop-s-test.false ∙ taken-end _ _)
