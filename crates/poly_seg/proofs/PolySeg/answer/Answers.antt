-- `poly_seg::PolySeg::answer` meets its contract: the delays of a record that keeps its rules are short.
use Rattle.segmentation.proofs.DelayLaws.{delays-short}
use Rattle.poly_seg.proofs.Facts.{facts}
use Rattle.poly_seg.proofs.PolySeg.answer.Goals as goal

pub shared_ref_as_front-delays : goal.shared_ref_as_front-delays
shared_ref_as_front-delays c = (facts _ c.requires.kept).places

pub answer-requires-clause-short : goal.answer-requires-clause-short
answer-requires-clause-short c =
    rw c.find_delays-found.ensures (delays-short _ _ _ _ (facts _ c.requires.kept).short)
