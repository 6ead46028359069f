-- `seg::FreeVolume::dry_run_kept` meets its contract: the answer of what is chosen.
use mathlib.Core.Path.{ap, ◌∙◌}
use Rattle.free_list.specs.declared.Chosen.{Chosen}
use Rattle.seg.proofs.Calls.{chosen-offer}
use Rattle.seg.proofs.FreeVolume.dry_run_kept.Goals as goal

pub returns : goal.returns
returns c = ap (λ (x : Chosen). x.offer) c.found.ensures ∙ chosen-offer _ _ _ c.requires
