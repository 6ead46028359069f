-- `poly_seg::PolySeg::list` meets its contract.
use mathlib.Core.Path.{sym, ◌∙◌}
use Rattle.poly_seg.proofs.Calls.{list-record, list_done}
use Rattle.poly_seg.proofs.PolySeg.list.Goals as goal

pub returns-then-not-ok : goal.returns-then-not-ok
returns-then-not-ok c =
    rw (c.number.ensures, c.default.ensures) (sym (list-record _ (sym c.ok.ensures ∙ c.if-not-ok.true)))

pub returns : goal.returns
returns c = sym (list_done _ (sym c.ok.ensures ∙ c.if-not-ok.false))
