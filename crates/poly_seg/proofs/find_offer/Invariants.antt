-- `poly_seg::find_offer` meets its contract. The invariant: the segments left have the offer that is asked, at the loop's place on.
use Rattle.std.proofs.Common.{◌≡◌, drop}
use Rattle.poly.specs.Granted.{capacity_by}
use Rattle.poly_seg.proofs.Picked.{loop_of}
use Rattle.poly_seg.proofs.find_offer.Given as goal

abbrev pub invariant-loop-place : goal.invariant-loop-place
invariant-loop-place l =
    loop_of (capacity_by l.terms.terms) l.asked.0 l.size 0 l.free ≡ loop_of (capacity_by l.terms.terms) l.asked.0 l.size l.place (drop l.place l.free)
