-- `legacy::volumes::take` meets its contract: what stands at a place is as it came, and then holds the size less.
use borrow.Author.Tests.{leb-true}
use mathlib.Core.Path.{sym, ◌∙◌}
use native.Mathlib.Omega.{arith}
use Rattle.legacy.specs.Open.{at_least}
use Rattle.legacy.proofs.First.{less, take-is, first-none, first_store, first-end, first_tested}
use Rattle.legacy.proofs.volumes.take.Goals as goal

pub loop-volume-init : goal.loop-volume-init
loop-volume-init c = sym (first-none _ _)

pub overflow_sub-volume : goal.overflow_sub-volume
overflow_sub-volume c =
    let l = c.loop-volume in
    omega (arith, leb-true _ _ (first_tested (less c.args.size.0) l.volume-index c.args.volumes.now l.volume-items l.invariant (at_least c.args.size.0) (record { 0 = 0 }) c.loop-volume-test.true c.requires))

pub loop-volume-preserved : goal.loop-volume-preserved
loop-volume-preserved c = first_store _ _ _ _ c.loop-volume.invariant _

pub returns : goal.returns
returns c =
    let l = c.loop-volume in
    first-end _ _ _ _ l.invariant _ (omega arith) c.loop-volume-test.false ∙ sym (take-is _ _ _)
