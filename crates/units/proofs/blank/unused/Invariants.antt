-- `units::blank::unused` meets its contract. The invariant: what is left of the list answers as the whole.
use Rattle.std.proofs.Common.{◌≡◌, drop}
use Rattle.units.specs.Logic.{all_of}
use Rattle.units.proofs.blank.unused.Given as goal

abbrev pub invariant-loop-place : goal.invariant-loop-place
invariant-loop-place g l = all_of g.T.Place.blank l.fn.places ≡ all_of g.T.Place.blank (drop l.place-index l.places)
