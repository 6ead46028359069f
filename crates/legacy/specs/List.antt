-- 01, "The trace program", the list of a queue record: the class count and each class's queue; 1 for a damaged record.
use Rattle.units.specs.Logic.{unless}
use Rattle.legacy.specs.declared.Queue.{Queue}
use Rattle.legacy.specs.declared.Listing.{Listing}
use Rattle.legacy.specs.Open.{zeros}
use Rattle.legacy.specs.Record.{record_ok}

-- the list
unfoldable pub list_of : Queue → Listing
list_of r =
    unless (record_ok r) (record { number = 1; classes = 0; queues = zeros })
    (record { number = 0; classes = r.classes; queues = r.queues })
