-- Over any manager: what every booking keeps, any calls keep.
use Rattle.units.specs.declared.Date.{Date}
use Rattle.units.specs.declared.TxData.{TxData}
use Rattle.units.specs.declared.Bundle.{Bundle}
use Rattle.units.specs.Calls.{Calls, Runs, done, dry_run, list, book}

module _ (M : Calls) (P : M.Manager → Type 0) (step : (r : M.Manager) (at : Date) (b : Bundle) (d : TxData) (a : M.Booked) → M.book r at b d a → P r → P (M.after a)) where
  pub run-keeps : (r s : M.Manager) → P r → Runs M r s → P s
  run-keeps r s q done = q
  run-keeps r s q (dry_run at b o p rest) = run-keeps r s q rest
  run-keeps r s q (list o p rest) = run-keeps r s q rest
  run-keeps r s q (book at b d a p rest) = run-keeps (M.after a) s (step r at b d a p q) rest
