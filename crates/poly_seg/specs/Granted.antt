-- What inner functions compute on the way. No promise of a public call rests on it.
use Rattle.std.specs.Prelude.{ℕ, Bool, [], leb, eqb, drop}
use Rattle.units.specs.declared.Date.{Date}
use Rattle.units.specs.declared.Bundle.{Bundle}
use Rattle.units.specs.declared.Interval.{Interval}
use Rattle.units.specs.Logic.{both, unless, all_of}
use Rattle.units.specs.Limits.{listed_max, window_ok, bundle_ok}
use Rattle.contact.specs.Segments.{no_volume, no_delay}
use Rattle.free_list.specs.declared.FreeList.{FreeList}
use Rattle.free_list.specs.Listed.{list_ok}
use Rattle.free_list.specs.Cut.{listed}
use Rattle.free_list.specs.declared.Chosen.{Chosen}
use Rattle.free_list.specs.Granted.{chosen_in}
use Rattle.poly.specs.declared.Polynome.{Polynome}
use Rattle.poly.specs.Poly.{poly_ok}
use Rattle.poly_seg.specs.declared.Choices.{Choices}
use Rattle.poly_seg.specs.Choices.{choices_ok}
use Rattle.poly_seg.specs.declared.PolySeg.{PolySeg}
use Rattle.poly_seg.specs.Open.{open_of}
use Rattle.poly_seg.specs.Record.{delays_at}
use Rattle.poly_seg.specs.DryRun.{found_of}

-- what a dry run finds on a record that keeps its rules
unfoldable pub chosen_of : PolySeg → Date → Bundle → Chosen
chosen_of r at b = chosen_in (bundle_ok at b) (delays_at r) (found_of r at.0 b.size.0)

-- the number of an opening whose delays pass their test, or not
unfoldable pub number_by : Choices → Interval → Polynome → Bool → ℕ
number_by h w p held = unless (choices_ok h) 2 (unless (window_ok w) 3 (unless held 5 (unless (poly_ok h.mode.0 p w) 11 0)))

-- the parts of a record's test: an opening with its figures is done, and its unused delay places are zero
unfoldable pub figures_ok : PolySeg → Bool
figures_ok r =
    both (eqb (open_of r.choices r.window r.polynome r.delays r.delay_count).number 0) (all_of no_delay (drop r.delay_count r.delays))

-- and the free list keeps its rules
unfoldable pub free_ok : Interval → FreeList → Bool
free_ok w f =
    both (leb 1 f.count)
    (both (leb f.count listed_max)
    (both (list_ok [] w.start.0 w.end.0 (listed f)) (all_of no_volume (drop f.count f.segments))))
