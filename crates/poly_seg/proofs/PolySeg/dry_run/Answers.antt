-- `poly_seg::PolySeg::dry_run` meets its contract: the record's test, then the dry run on a record that keeps its rules.
use mathlib.Core.Path.{sym, ap, ◌∙◌}
use Rattle.units.specs.Answer.{refused}
use Rattle.units.proofs.Choice.{told-yes, told-no}
use Rattle.poly_seg.proofs.Calls.{dry-record}
use Rattle.poly_seg.proofs.PolySeg.dry_run.Goals as goal

pub returns-then-not-ok : goal.returns-then-not-ok
returns-then-not-ok c =
    c.refused.ensures ∙ ap refused c.number.ensures ∙ sym (dry-record _ _ _ (told-no c.ok.ensures c.if-not-ok.true))

pub dry_run_kept-requires : goal.dry_run_kept-requires
dry_run_kept-requires c = told-yes c.ok.ensures c.if-not-ok.false

pub returns : goal.returns
returns c = c.dry_run_kept.ensures
