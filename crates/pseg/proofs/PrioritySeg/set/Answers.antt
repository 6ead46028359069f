-- `pseg::PrioritySeg::set` meets its contract: the list's own setting, at the priority's level.
use Rattle.pseg.proofs.Facts.{facts}
use Rattle.pseg.proofs.PrioritySeg.set.Goals as goal

pub set-done-requires : goal.set-done-requires
set-done-requires c = record { few = (facts _ c.requires.fact_1).few }
