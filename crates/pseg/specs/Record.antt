-- 01, "Records": a priority record keeps the contact's rules and lists 1 to 64 bookings that cover the window; unused places are zero.
use Rattle.std.specs.Prelude.{Bool, leb, drop}
use Rattle.units.specs.Limits.{listed_max}
use Rattle.units.specs.Logic.{both, all_of}
use Rattle.contact.specs.declared.Contact.{Contact}
use Rattle.contact.specs.Record.{contact_ok}
use Rattle.bookings.specs.declared.Bookings.{Bookings}
use Rattle.bookings.specs.Listed.{cover_ok, no_booking, listed}
use Rattle.pseg.specs.declared.PrioritySeg.{PrioritySeg}

unfoldable pub bookings_ok : Contact → Bookings → Bool
bookings_ok c f =
    both (leb 1 f.count)
    (both (leb f.count listed_max)
    (both (cover_ok c.window.start.0 c.window.end.0 (listed f))
    (all_of no_booking (drop f.count f.segments))))

unfoldable pub record_ok : PrioritySeg → Bool
record_ok r = both (contact_ok r.contact) (bookings_ok r.contact r.bookings)
