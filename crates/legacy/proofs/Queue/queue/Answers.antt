-- `legacy::Queue::queue` meets its contract: a class is a place.
use native.Mathlib.Omega.{arith}
use Rattle.legacy.proofs.Facts.{sound}
use Rattle.legacy.proofs.Queue.queue.Goals as goal

pub bounds-self-class : goal.bounds-self-class
bounds-self-class c = let s = sound _ c.requires in omega arith
