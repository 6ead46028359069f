-- `legacy::Queue::keeps` meets its contract: figures that an opening takes have at most eight classes.
use Rattle.legacy.proofs.Facts.{opened-eight}
use Rattle.legacy.proofs.Found.{told-ok}
use mathlib.Core.Path.{sym, ◌∙◌}
use Rattle.legacy.proofs.Queue.keeps.Goals as goal

pub shared_ref_as_front-within : goal.shared_ref_as_front-within
shared_ref_as_front-within c = opened-eight _ _ _ _ _ _ _ (sym c.check.ensures ∙ told-ok _ (sym c.if-is_ok.ensures.value))
