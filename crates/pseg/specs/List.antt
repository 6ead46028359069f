-- 01, "Refusal numbers", List: 1, else the listed segments.
use Rattle.std.specs.Prelude.{[]}
use Rattle.units.specs.Logic.{unless}
use Rattle.pseg.specs.declared.PrioritySeg.{PrioritySeg}
use Rattle.pseg.specs.declared.Listing.{Listing}
use Rattle.pseg.specs.Record.{record_ok}
use Rattle.bookings.specs.Cut.{list_in}

-- the list
unfoldable pub list_of : PrioritySeg → Listing
list_of r = unless (record_ok r) (record { number = 1; list = list_in [] }) (record { number = 0; list = r.bookings })
