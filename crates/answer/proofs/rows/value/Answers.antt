-- `answer::rows::value` meets its contract: all ones for -1, else one below the level.
use Rattle.answer.proofs.Stretches.{none-bits, level-bits}
use Rattle.answer.proofs.rows.value.Goals as goal

pub returns-then-level-eq0 : goal.returns-then-level-eq0
returns-then-level-eq0 c = none-bits _ c.if-level-eq0.true

pub returns-else-level-eq0 : goal.returns-else-level-eq0
returns-else-level-eq0 c = level-bits _ c.if-level-eq0.false
