-- `frames::step` meets its contract: no line, a kind that can change what is held, any other kind.
use mathlib.Core.Path.{sym, ap, ◌∙◌}
use Rattle.units.proofs.Choice.{told-yes, told-no}
use Rattle.frames.specs.Step.{told}
use Rattle.frames.proofs.Told.{stepped-as, step-refused, step-changes, step-shows}
use Rattle.frames.proofs.step.Goals as goal

pub returns-then-not-is_line : goal.returns-then-not-is_line
returns-then-not-is_line c =
    stepped-as _ (step-refused _ _ (told-no c.is_line.ensures c.if-not-is_line.true)) c.put_number-length.ensures

pub returns-then-can_change : goal.returns-then-can_change
returns-then-can_change c =
    stepped-as _
    (ap told c.change-done.ensures
    ∙ step-changes _ _ (told-yes c.is_line.ensures c.if-not-is_line.false) (sym c.can_change.ensures ∙ c.if-can_change.true))
    c.put_number-length-then-can_change.ensures

pub returns : goal.returns
returns c =
    stepped-as _
    (step-shows _ _ (told-yes c.is_line.ensures c.if-not-is_line.false) (sym c.can_change.ensures ∙ c.if-can_change.false))
    c.show-length.ensures
