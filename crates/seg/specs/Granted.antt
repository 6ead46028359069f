-- What inner functions compute on the way. No promise of a public call rests on it.
use Rattle.std.specs.Prelude.{Result}
use Rattle.units.specs.declared.Date.{Date}
use Rattle.units.specs.declared.Bundle.{Bundle}
use Rattle.units.specs.declared.refusal.Refusal.{Refusal}
use Rattle.units.specs.Refusal.{told}
use Rattle.units.specs.Limits.{bundle_ok}
use Rattle.contact.specs.Record.{delays_at}
use Rattle.free_list.specs.declared.Chosen.{Chosen}
use Rattle.free_list.specs.declared.Cut.{Cut}
use Rattle.free_list.specs.Granted.{chosen_in}
use Rattle.seg.specs.declared.FreeVolume.{FreeVolume}
use Rattle.seg.specs.declared.Booked.{Booked}
use Rattle.seg.specs.Record.{with_free}
use Rattle.seg.specs.DryRun.{found_of}

-- what a dry run finds on a record that keeps its rules
unfoldable pub chosen_of : FreeVolume → Date → Bundle → Chosen
chosen_of r at b = chosen_in (bundle_ok at b) (delays_at r.contact) (found_of r at.0 b.size.0)

-- what a cut leaves of a record, refused or done
abbrev pub booked_by : FreeVolume → Cut → Booked
booked_by r x = record { number = x.number; manager = with_free r x.list }

-- a booking made where the record stands: its number, and the record that is left there
abbrev pub left_by : FreeVolume → Result Unit Refusal → Booked
left_by m r = record { number = told r; manager = m }
