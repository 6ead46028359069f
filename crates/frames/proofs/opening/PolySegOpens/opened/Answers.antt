-- What the layout gives is opened, and what is opened keeps its rules.
use mathlib.Core.Path.{sym, ap, ◌∙◌}
use Rattle.poly_seg.specs.declared.Choices.{Choices}
use Rattle.poly_seg.specs.declared.Opened.{Opened}
use Rattle.poly_seg.specs.Open.{open_of}
use Rattle.poly_seg.specs.Record.{record_ok}
use Rattle.held.specs.declared.Held.TheVariants.{Polynomial}
use Rattle.frames.specs.Opening.{polynomial_opened}
use Rattle.frames.proofs.Opened.{polynomial-opened}
use Rattle.frames.proofs.opening.PolySegOpens.opened.Goals as goal

pub returns : goal.returns
unfolding polynomial_opened
returns c =
    let f = c.read-f.result in
    let is =
    c.open-o.ensures
    ∙ ap (λ (h : Choices). open_of h f.window f.polynome f.delays f.delay_count) c.choosing_polynomial.ensures
    ∙ ap polynomial_opened c.read-f.ensures in
    record {
      is = ap (λ (o : Opened). record { number = o.number; held = Polynomial o.manager }) is;
      keeps_rules = λ z. ap (λ (o : Opened). record_ok o.manager) is ∙ polynomial-opened _ (sym (ap (λ (o : Opened). o.number) is) ∙ z);
    }
