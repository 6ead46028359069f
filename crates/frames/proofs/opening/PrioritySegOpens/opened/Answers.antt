-- What the layout gives is opened, and what is opened keeps its rules.
use mathlib.Core.Path.{sym, ap, ◌∙◌}
use Rattle.contact.specs.declared.Choices.{Choices}
use Rattle.pseg.specs.declared.Opened.{Opened}
use Rattle.pseg.specs.Open.{open_of}
use Rattle.pseg.specs.Record.{record_ok}
use Rattle.held.specs.declared.Held.TheVariants.{Priority}
use Rattle.frames.specs.Opening.{priority_opened}
use Rattle.frames.proofs.Opened.{priority-opened}
use Rattle.frames.proofs.opening.PrioritySegOpens.opened.Goals as goal

pub returns : goal.returns
unfolding priority_opened
returns c =
    let f = c.read-f.result in
    let is =
    c.open-o.ensures
    ∙ ap (λ (h : Choices). open_of h f.window f.rates f.rate_count f.delays f.delay_count) c.choosing.ensures
    ∙ ap priority_opened c.read-f.ensures in
    record {
      is = ap (λ (o : Opened). record { number = o.number; held = Priority o.manager }) is;
      keeps_rules = λ z. ap (λ (o : Opened). record_ok o.manager) is ∙ priority-opened _ (sym (ap (λ (o : Opened). o.number) is) ∙ z);
    }
