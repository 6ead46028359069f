-- `legacy::Queue::budget` meets its contract: a class is a place, and what the window carries is inside the limit of volumes.
use native.Mathlib.Omega.{arith}
use Rattle.legacy.proofs.Facts.{sound}
use Rattle.legacy.proofs.Queue.budget.Goals as goal

pub bounds-self-class : goal.bounds-self-class
bounds-self-class c = let s = sound _ c.requires in omega arith

pub overflow_sub-result : goal.overflow_sub-result
overflow_sub-result c = let s = sound _ c.requires in omega arith

pub overflow_mul-result : goal.overflow_mul-result
overflow_mul-result c = let s = sound _ c.requires in omega arith
