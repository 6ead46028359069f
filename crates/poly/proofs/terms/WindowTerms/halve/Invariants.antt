-- `poly::terms::WindowTerms::halve` meets its contract. The invariant: what halving from low and top on answers is the answer.
use Prim.Native.Nat.{◌-◌}
use Rattle.poly.specs.Search.{area_from}
use Rattle.poly.specs.Granted.{capacity_by}
use Rattle.poly.proofs.Halving.{Left}
use Rattle.poly.proofs.terms.WindowTerms.halve.Given as goal

abbrev pub invariant-loop-low : goal.invariant-loop-low
invariant-loop-low l = Left (area_from (capacity_by l.self.terms) l.known) l.target l.initial.low l.initial.top l.low l.top

abbrev pub decreases-loop-low : goal.decreases-loop-low
decreases-loop-low l = l.top - l.low
