-- `legacy::volumes::add` meets its contract: what stands at a place is as it came, and then holds the size more.
use borrow.Author.Tests.{leb-true}
use mathlib.Core.Path.{sym, ◌∙◌}
use native.Mathlib.Omega.{arith}
use Rattle.legacy.specs.Open.{at_most}
use Rattle.legacy.specs.Record.{queue_max}
use Rattle.legacy.proofs.First.{more, add_is, first-none, first_store, first-end, first_tested}
use Rattle.legacy.proofs.volumes.add.Goals as goal

pub loop-volume-init : goal.loop-volume-init
loop-volume-init c = sym (first-none _ _)

pub overflow_add-volume : goal.overflow_add-volume
overflow_add-volume c =
    let l = c.loop-volume in
    omega (arith, leb-true _ _ (first_tested (more c.args.size.0) l.volume-index c.args.volumes.now l.volume-items l.invariant (at_most queue_max) (record { 0 = 0 }) c.loop-volume-test.true c.requires.low))

pub loop-volume-preserved : goal.loop-volume-preserved
loop-volume-preserved c = first_store _ _ _ _ c.loop-volume.invariant _

pub returns : goal.returns
returns c =
    let l = c.loop-volume in
    first-end _ _ _ _ l.invariant _ (omega arith) c.loop-volume-test.false ∙ sym (add_is _ _ _)
