-- `legacy::Queue::start` meets its contract: a rate is some, and a date and a wait are a number.
use Prim.Native.Nat.{max}
use mathlib.Core.Path.{◌≡◌}
use borrow.Author.Rules.{rules}
use native.Mathlib.Nat.{div-le_self}
use native.Mathlib.Omega.{arith}
use Rattle.legacy.proofs.Facts.{sound}
use Rattle.legacy.proofs.Queue.start.Goals as goal

pub nonzero_div-wait : goal.nonzero_div-wait
nonzero_div-wait c = let s = sound _ c.requires.kept in omega arith

pub overflow_add-from : goal.overflow_add-from
overflow_add-from c =
    let s = sound _ c.requires.kept in omega (arith, div-le_self c.args.queue.0 c.args.self.now.rate.0)

pub overflow_add-result : goal.overflow_add-result
overflow_add-result c =
    let s = sound _ c.requires.kept in
    let m : c.max-2.result.0 ≡ max c.args.self.now.window.start.0 c.args.at.0 = search rules in
    omega (arith, div-le_self c.args.queue.0 c.args.self.now.rate.0)
