-- `poly_seg::PolySeg::cut` meets its contract: the list's cut, with no rates.
use native.Mathlib.Omega.{arith}
use Rattle.segmentation.specs.Granted.{Run}
use Rattle.poly_seg.proofs.PolySeg.cut.Goals as goal

pub cut-requires : goal.cut-requires
unfolding Run
cut-requires c = record { few = omega arith; in_turn = record { from = 0; run = tt }; inside = c.requires }
