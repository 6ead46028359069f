-- Each public call's promise determines its answer. `Post` is the reading of the contract in src/.
use Rattle.std.proofs.Common.{sym, ◌∙◌}
use borrow.Fn.Kinds.{Dens}
use contract.Lifetimes.{Lfts}
use Rattle.units.proofs.Determined.{Determined}
use Rattle.hexadecimal.proofs.clean.Kinds as clean-kinds
use Rattle.hexadecimal.proofs.clean.Reads as clean-reads
use Rattle.hexadecimal.proofs.byte_at.Kinds as byte-kinds
use Rattle.hexadecimal.proofs.byte_at.Reads as byte-Reads
use Rattle.hexadecimal.proofs.number_at.Kinds as number-kinds
use Rattle.hexadecimal.proofs.number_at.Reads as number-reads
use Rattle.hexadecimal.proofs.signed_at.Kinds as signed-kinds
use Rattle.hexadecimal.proofs.signed_at.Reads as signed-Reads

module _ (κs : Lfts 1) where
  pub clean-unique : (a : Dens κs clean-kinds.ps) → Determined (clean-reads.Post κs a)
  clean-unique a r q x y f g = f ∙ sym g

  pub byte-at-unique : (a : Dens κs byte-kinds.ps) → Determined (byte-Reads.Post κs a)
  byte-at-unique a r q x y f g = f ∙ sym g

  pub number-at-unique : (a : Dens κs number-kinds.ps) → Determined (number-reads.Post κs a)
  number-at-unique a r q x y f g = f ∙ sym g

  pub signed-at-unique : (a : Dens κs signed-kinds.ps) → Determined (signed-Reads.Post κs a)
  signed-at-unique a r q x y f g = f ∙ sym g
