-- What the layout gives is opened, and what is opened keeps its rules.
use mathlib.Core.Path.{sym, ap, ◌∙◌}
use Rattle.contact.specs.declared.Choices.{Choices}
use Rattle.seg.specs.declared.Opened.{Opened}
use Rattle.seg.specs.Open.{open_of}
use Rattle.seg.specs.Record.{record_ok}
use Rattle.held.specs.declared.Held.TheVariants.{Free}
use Rattle.frames.specs.Opening.{free_opened}
use Rattle.frames.proofs.Opened.{free-opened}
use Rattle.frames.proofs.opening.FreeVolumeOpens.opened.Goals as goal

pub returns : goal.returns
unfolding free_opened
returns c =
    let f = c.read-f.result in
    let is =
    c.open-o.ensures
    ∙ ap (λ (h : Choices). open_of h f.window f.rates f.rate_count f.delays f.delay_count) c.choosing.ensures
    ∙ ap free_opened c.read-f.ensures in
    record {
      is = ap (λ (o : Opened). record { number = o.number; held = Free o.manager }) is;
      keeps_rules = λ z. ap (λ (o : Opened). record_ok o.manager) is ∙ free-opened _ (sym (ap (λ (o : Opened). o.number) is) ∙ z);
    }
