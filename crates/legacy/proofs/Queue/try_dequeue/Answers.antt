-- `legacy::Queue::try_dequeue` meets its contract: a bundle outside its limits and self-update are refused.
use mathlib.Core.Path.{sym, ◌∙◌}
use Rattle.std.proofs.lemmas.Result.{err_from_is_err_and}
use Rattle.legacy.specs.Queueing.{dequeue_of}
use Rattle.legacy.proofs.Found.{manual_go, manual-stop}
use Rattle.legacy.proofs.Queue.try_dequeue.Goals as goal

pub returns-in_err-check_manual : goal.returns-in_err-check_manual
unfolding dequeue_of
returns-in_err-check_manual c =
    let p = err_from_is_err_and c.from_residual.result c.from_residual.ensures.1 in
    rw (p.1, p.2) (sym (manual-stop _ _ c.requires _ _ c.in_err-check_manual.ensures))

pub returns : goal.returns
unfolding dequeue_of
returns c = c.pull.ensures ∙ sym (manual_go _ _ c.requires _ c.in_ok-check_manual.ensures)
