-- `legacy::Queue::class` meets its contract: a record that keeps its rules has a class.
use native.Mathlib.Omega.{arith}
use Rattle.legacy.proofs.Facts.{sound}
use Rattle.legacy.proofs.Queue.class.Goals as goal

pub overflow_sub-self : goal.overflow_sub-self
overflow_sub-self c = let s = sound _ c.requires in omega arith
