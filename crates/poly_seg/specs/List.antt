-- 01, "Refusal numbers", List: 1, else the listed segments, with no volumes.
use Rattle.std.specs.Prelude.{[]}
use Rattle.units.specs.Logic.{unless}
use Rattle.free_list.specs.Cut.{list_in}
use Rattle.poly_seg.specs.declared.PolySeg.{PolySeg}
use Rattle.poly_seg.specs.declared.Listing.{Listing}
use Rattle.poly_seg.specs.Record.{record_ok}

-- the list
unfoldable pub list_of : PolySeg → Listing
list_of r = unless (record_ok r) (record { number = 1; list = list_in [] }) (record { number = 0; list = r.free })
