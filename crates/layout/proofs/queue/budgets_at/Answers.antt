-- `layout::queue::budgets_at` meets its contract: the rows fill the array.
use Rattle.std.proofs.Common.{◌∙◌}
use Rattle.layout.specs.Queue.{budgets_at}
use Rattle.layout.proofs.Rows.{filled-whole}
use Rattle.layout.proofs.queue.budgets_at.Goals as goal

pub returns : goal.returns
unfolding budgets_at
returns c = c.rows_at.ensures ∙ filled-whole _ _ _ _ _
