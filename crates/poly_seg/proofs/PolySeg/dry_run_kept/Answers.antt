-- `poly_seg::PolySeg::dry_run_kept` meets its contract: the answer of what is chosen.
use mathlib.Core.Path.{ap, ◌∙◌}
use Rattle.free_list.specs.declared.Chosen.{Chosen}
use Rattle.poly_seg.proofs.Calls.{chosen-offer}
use Rattle.poly_seg.proofs.PolySeg.dry_run_kept.Goals as goal

pub returns : goal.returns
returns c = ap (λ (x : Chosen). x.offer) c.chosen.ensures ∙ chosen-offer _ _ _ c.requires
