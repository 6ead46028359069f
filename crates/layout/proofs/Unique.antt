-- Each public call's promise determines its answer. `Post` is the reading of the contract in src/.
use mathlib.Core.Path.{sym, ◌∙◌}
use borrow.Fn.Kinds.{Dens}
use contract.Lifetimes.{Lfts}
use Rattle.units.proofs.Determined.{Determined}
use Rattle.layout.proofs.has.Kinds as has-kinds
use Rattle.layout.proofs.has.Reads as has-reads
use Rattle.layout.proofs.count_at.Kinds as count-at-kinds
use Rattle.layout.proofs.count_at.Reads as count-at-reads
use Rattle.layout.proofs.date_at.Kinds as date-at-kinds
use Rattle.layout.proofs.date_at.Reads as date-at-reads
use Rattle.layout.proofs.interval_at.Kinds as interval-at-kinds
use Rattle.layout.proofs.interval_at.Reads as interval-at-reads
use Rattle.layout.proofs.dates_at.Kinds as dates-at-kinds
use Rattle.layout.proofs.dates_at.Reads as dates-at-reads
use Rattle.layout.proofs.bundle_at.Kinds as bundle-at-kinds
use Rattle.layout.proofs.bundle_at.Reads as bundle-at-reads
use Rattle.layout.proofs.rule.length.Kinds as rule-length-kinds
use Rattle.layout.proofs.rule.length.Reads as rule-length-reads
use Rattle.layout.proofs.rule.at.Kinds as rule-at-kinds
use Rattle.layout.proofs.rule.at.Reads as rule-at-reads
use Rattle.layout.proofs.opening.rates_at.Kinds as rates-at-kinds
use Rattle.layout.proofs.opening.rates_at.Reads as rates-at-reads
use Rattle.layout.proofs.opening.delays_at.Kinds as delays-at-kinds
use Rattle.layout.proofs.opening.delays_at.Reads as delays-at-reads
use Rattle.layout.proofs.opening.fits.Kinds as opening-fits-kinds
use Rattle.layout.proofs.opening.fits.Reads as opening-fits-reads
use Rattle.layout.proofs.opening.read.Kinds as opening-read-kinds
use Rattle.layout.proofs.opening.read.Reads as opening-read-reads
use Rattle.layout.proofs.polynomial.fits.Kinds as polynomial-fits-kinds
use Rattle.layout.proofs.polynomial.fits.Reads as polynomial-fits-reads
use Rattle.layout.proofs.polynomial.read.Kinds as polynomial-read-kinds
use Rattle.layout.proofs.polynomial.read.Reads as polynomial-read-reads
use Rattle.layout.proofs.queue.fits.Kinds as queue-fits-kinds
use Rattle.layout.proofs.queue.fits.Reads as queue-fits-reads
use Rattle.layout.proofs.queue.read.Kinds as queue-read-kinds
use Rattle.layout.proofs.queue.read.Reads as queue-read-reads

module _ (κs : Lfts 1) where
  pub has-unique : (a : Dens κs has-kinds.ps) → Determined (has-reads.Post κs a)
  has-unique a r q x y f g = f ∙ sym g

  pub count-at-unique : (a : Dens κs count-at-kinds.ps) → Determined (count-at-reads.Post κs a)
  count-at-unique a r q x y f g = f.0 ∙ sym g.0

  pub date-at-unique : (a : Dens κs date-at-kinds.ps) → Determined (date-at-reads.Post κs a)
  date-at-unique a r q x y f g = f ∙ sym g

  pub interval-at-unique : (a : Dens κs interval-at-kinds.ps) → Determined (interval-at-reads.Post κs a)
  interval-at-unique a r q x y f g = f ∙ sym g

  pub dates-at-unique : (a : Dens κs dates-at-kinds.ps) → Determined (dates-at-reads.Post κs a)
  dates-at-unique a r q x y f g = f ∙ sym g

  pub bundle-at-unique : (a : Dens κs bundle-at-kinds.ps) → Determined (bundle-at-reads.Post κs a)
  bundle-at-unique a r q x y f g = f ∙ sym g

  pub rule-length-unique : (a : Dens κs rule-length-kinds.ps) → Determined (rule-length-reads.Post κs a)
  rule-length-unique a r q x y f g = f.0 ∙ sym g.0

  pub rule-at-unique : (a : Dens κs rule-at-kinds.ps) → Determined (rule-at-reads.Post κs a)
  rule-at-unique a r q x y f g = f ∙ sym g

  pub rates-at-unique : (a : Dens κs rates-at-kinds.ps) → Determined (rates-at-reads.Post κs a)
  rates-at-unique a r q x y f g = f ∙ sym g

  pub delays-at-unique : (a : Dens κs delays-at-kinds.ps) → Determined (delays-at-reads.Post κs a)
  delays-at-unique a r q x y f g = f ∙ sym g

  pub opening-fits-unique : (a : Dens κs opening-fits-kinds.ps) → Determined (opening-fits-reads.Post κs a)
  opening-fits-unique a r q x y f g = f ∙ sym g

  pub opening-read-unique : (a : Dens κs opening-read-kinds.ps) → Determined (opening-read-reads.Post κs a)
  opening-read-unique a r q x y f g = f ∙ sym g

  pub polynomial-fits-unique : (a : Dens κs polynomial-fits-kinds.ps) → Determined (polynomial-fits-reads.Post κs a)
  polynomial-fits-unique a r q x y f g = f ∙ sym g

  pub polynomial-read-unique : (a : Dens κs polynomial-read-kinds.ps) → Determined (polynomial-read-reads.Post κs a)
  polynomial-read-unique a r q x y f g = f ∙ sym g

  pub queue-fits-unique : (a : Dens κs queue-fits-kinds.ps) → Determined (queue-fits-reads.Post κs a)
  queue-fits-unique a r q x y f g = f ∙ sym g

  pub queue-read-unique : (a : Dens κs queue-read-kinds.ps) → Determined (queue-read-reads.Post κs a)
  queue-read-unique a r q x y f g = f ∙ sym g
