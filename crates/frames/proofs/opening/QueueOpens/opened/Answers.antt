-- What the layout gives is opened, and what is opened keeps its rules.
use mathlib.Core.Path.{sym, ap, ◌∙◌}
use Rattle.legacy.specs.declared.Choices.{Choices}
use Rattle.legacy.specs.declared.Opened.{Opened}
use Rattle.legacy.specs.Open.{open_of}
use Rattle.legacy.specs.Record.{record_ok}
use Rattle.held.specs.declared.Held.TheVariants.{Queue}
use Rattle.frames.specs.Opening.{queue_opened}
use Rattle.frames.proofs.Opened.{queue-opened}
use Rattle.frames.proofs.opening.QueueOpens.opened.Goals as goal

pub returns : goal.returns
unfolding queue_opened
returns c =
    let f = c.read-f.result in
    let is =
    c.open-o.ensures
    ∙ ap (λ (h : Choices). open_of h f.window f.rate f.delay f.classes f.flags f.budgets) c.ported.ensures
    ∙ ap queue_opened c.read-f.ensures in
    record {
      is = ap (λ (o : Opened). record { number = o.number; held = Queue o.manager }) is;
      keeps_rules = λ z. ap (λ (o : Opened). record_ok o.manager) is ∙ queue-opened _ (sym (ap (λ (o : Opened). o.number) is) ∙ z);
    }
