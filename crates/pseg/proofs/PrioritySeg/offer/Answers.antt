-- `pseg::PrioritySeg::offer` meets its contract: the run that is found is answered with its delays, or the refusal is.
use mathlib.Core.Path.{sym, ◌∙◌}
use Rattle.units.proofs.Loads.{asked-load, load}
use Rattle.pseg.proofs.Facts.{facts, answer-asks}
use Rattle.pseg.proofs.Calls.{dry-at}
use Rattle.pseg.proofs.PrioritySeg.offer.Goals as goal

pub answer-requires : goal.answer-requires
answer-requires c =
    let asks = answer-asks _ (facts _ c.requires) c.args.at.0 c.args.bundle _ c.in-Ok.ensures.1 (load _ (asked-load _ _ c.in-Ok.ensures.0)).some in
    record { kept = asks.0; dated = asks.1 }

pub returns-in-Ok : goal.returns-in-Ok
returns-in-Ok c = c.answer.ensures ∙ sym (dry-at _ _ _ c.requires c.in-Ok.ensures.0 _ c.in-Ok.ensures.1)
