-- `free_list::place::insert` meets its contract: the segments from the place on are copied up, and one is stored there.
use Rattle.contact.specs.Segments.{zero_volume}
use Rattle.free_list.proofs.Shift.{copied-set}
use Rattle.free_list.proofs.place.insert.Goals as goal

pub returns : goal.returns
returns c = rw c.copy_within.ensures.after (copied-set _ _ zero_volume c.requires.room _ _ c.requires.within)
