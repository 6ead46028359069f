-- `pseg::PrioritySeg::open` meets its contract: the contact's opening, and the whole window listed.
use mathlib.Core.Path.{sym, ap, ◌∙◌}
use Rattle.units.proofs.Logic.{unless-stop}
use Rattle.contact.proofs.Refusals.{refusal-some}
use Rattle.pseg.specs.Open.{opened_of, open_of}
use Rattle.pseg.proofs.PrioritySeg.open.Goals as goal

pub returns-in-Ok : goal.returns-in-Ok
unfolding open_of
returns-in-Ok c = c.accepted_opening.ensures ∙ ap (opened_of c.args.window) c.in-Ok.ensures

pub returns-in-Err : goal.returns-in-Err
unfolding open_of
returns-in-Err c =
    c.refused_opening.ensures ∙ sym (unless-stop _ _ _ (refusal-some c.in-Err.refusal)) ∙ ap (opened_of c.args.window) c.in-Err.ensures
