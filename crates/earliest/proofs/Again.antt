-- On a record without an empty segment an offer stands: asked again at any time up to its own send start, the dry run answers the same.
use Prim.Native.Nat.{ℕ, ◌≤◌}
use mathlib.Core.Bool.{true}
use mathlib.Core.Path.{◌≡◌, refl}
use native.Mathlib.Omega.{arith}
use Rattle.units.specs.declared.Date.{Date}
use Rattle.units.specs.declared.Bundle.{Bundle}
use Rattle.units.specs.declared.Offer.{Offer}
use Rattle.units.specs.Limits.{bundle_ok}
use Rattle.units.proofs.Determined.{Met}
use Rattle.pseg.specs.declared.PrioritySeg.{PrioritySeg}
use Rattle.pseg.specs.Record.{record_ok}
use Rattle.pseg.proofs.PrioritySeg.dry_run.Reads as dry-run-reads
use Rattle.earliest.specs.Start.{Least}
use Rattle.earliest.specs.Earliest.{StartIn, NoEmpty}
use Rattle.earliest.proofs.Unique.{whole_unique}
use Rattle.earliest.proofs.Earliest.{offer-earliest}
use Rattle.earliest.proofs.Calls.{earliest}

-- a start stays one for every asked time that it is not before
start-at : (r : PrioritySeg) (at late : Date) (b : Bundle) (s : ℕ) → late.0 ≤ s → StartIn r at b s → StartIn r late b s
start-at r at late b s le z =
    record { asked = le; inside = z.inside; end = z.end; ends = z.ends; by = z.by; free = z.free; itself = z.itself }

least_at : (r : PrioritySeg) (at late : Date) (b : Bundle) (s : ℕ) → at.0 ≤ late.0 → late.0 ≤ s → Least (StartIn r at b) s → Least (StartIn r late b) s
least_at r at late b s from to q =
    record {
      is = start-at r at late b s to q.is;
      least = λ u z. q.least u (start-at r late at b u (omega (arith, z.asked)) z);
    }

pub offered-again : (r : PrioritySeg) (at late : Date) (b : Bundle) (o e : Offer) → record_ok r ≡ true → NoEmpty r
    → bundle_ok at b ≡ true → Met (dry-run-reads.Post tt (r, (at, (b, tt)))) o → o.number ≡ 0
    → bundle_ok late b ≡ true → at.0 ≤ late.0 → late.0 ≤ o.dates.send.start.0 → Met (dry-run-reads.Post tt (r, (late, (b, tt)))) e
    → e ≡ o
offered-again r at late b o e ok none fits p zero fits-late from to q =
    let first = earliest r at b ok none fits o p in
    let second = earliest r late b ok none fits-late e q in
    let s = o.dates.send.start.0 in
    let least : Least (StartIn r late b) s = least_at r at late b s from to ((first.0.offer s).0 (zero, refl)) in
    whole_unique r late b e o second.0 (offer-earliest r late b o zero least) second.1 first.1
