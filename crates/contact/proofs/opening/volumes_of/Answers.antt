-- `contact::opening::volumes_of` meets its contract: the places passed hold their volumes, the others zero.
use Rattle.std.proofs.Common.{◌≡◌, rules, arith}
use Rattle.units.specs.Limits.{segments_max}
use Rattle.units.proofs.Arrays.{padded-none, padded-turn-map}
use Rattle.contact.specs.Segments.{volume_of, zero_volume}
use Rattle.contact.proofs.Rates.{zero_rate, fitting-here}
use Rattle.contact.proofs.opening.volumes_of.Goals as goal

pub loop-i-init : goal.loop-i-init
loop-i-init c =
    let e : c.default-out.result ≡ zero_volume = search rules in (rw e (padded-none segments_max zero_volume), c.requires.fitting)

pub volume_of-requires : goal.volume_of-requires
volume_of-requires c =
    (fitting-here c.args.rates.now c.loop-i.i zero_rate c.loop-i-test.true c.loop-i.invariant.1).0

pub loop-i-preserved : goal.loop-i-preserved
loop-i-preserved c =
    let l = c.loop-i in (
      rw (l.invariant.0, c.volume_of.ensures) (padded-turn-map segments_max zero_volume volume_of _ l.i _ (omega arith) c.loop-i-test.true),
      (fitting-here c.args.rates.now l.i zero_rate c.loop-i-test.true l.invariant.1).1,
    )
