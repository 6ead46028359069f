-- `trace::Program::lines` goes forward in the chunk.
use Rattle.std.proofs.Common.{◌≤◌, length}
use Rattle.trace.proofs.Program.lines.Given as goal

abbrev pub invariant-loop-end : goal.invariant-loop-end
invariant-loop-end l = length l.left ≤ length l.chunk

abbrev pub decreases-loop-end : goal.decreases-loop-end
decreases-loop-end l = length l.left
