-- `poly_seg::PolySeg::ok` meets its contract: the figures, then the free list.
use mathlib.Core.Path.{sym, ◌∙◌}
use Rattle.units.proofs.Logic.{both_go, both-stop}
use Rattle.poly_seg.proofs.Facts.{record-is, figures-passed}
use Rattle.poly_seg.proofs.PolySeg.ok.Goals as goal

pub free_ok-requires : goal.free_ok-requires
free_ok-requires c = (figures-passed _ (sym c.figures_ok.ensures ∙ c.if-figures_ok.true)).window

pub returns-then-figures_ok : goal.returns-then-figures_ok
returns-then-figures_ok c =
    c.free_ok.ensures ∙ sym (record-is _ ∙ both_go _ _ (sym c.figures_ok.ensures ∙ c.if-figures_ok.true))

pub returns-else-figures_ok : goal.returns-else-figures_ok
returns-else-figures_ok c =
    c.if-figures_ok.false ∙ sym (record-is _ ∙ both-stop _ _ (sym c.figures_ok.ensures ∙ c.if-figures_ok.false))
