-- `contact::opening::delays_of` meets its contract: the places given are copied, the others hold zero.
use Rattle.std.proofs.Common.{◌≡◌, rules}
use Rattle.units.specs.Limits.{segments_max}
use Rattle.contact.specs.Segments.{zero_delay}
use Rattle.contact.proofs.Told.{padded-part}
use Rattle.contact.proofs.opening.delays_of.Goals as goal

pub returns : goal.returns
returns c =
    let e : c.default-out.result ≡ zero_delay = search rules in
    rw (c.copy_from_slice.ensures.after, e) (padded-part segments_max zero_delay c.args.delays.now)
