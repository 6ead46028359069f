-- What inner functions compute on the way. No promise of a public call rests on it.
use Rattle.std.specs.Prelude.{Result}
use Rattle.units.specs.declared.refusal.Refusal.{Refusal}
use Rattle.units.specs.Refusal.{told}
use Rattle.pseg.specs.declared.PrioritySeg.{PrioritySeg}
use Rattle.pseg.specs.declared.Booked.{Booked}

-- a booking made where the record stands: its number, and the record that is left there
abbrev pub left_by : PrioritySeg → Result Unit Refusal → Booked
left_by m r = record { number = told r; manager = m }
