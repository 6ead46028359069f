-- From a fresh opening on, by any calls with any answers that the promises allow, no booking answers 13, and under self-update queue c is at most (8 - c) times 2^38.
use Prim.Native.Nat.{ℕ, ◌-◌, ◌*◌, ◌≤◌}
use mathlib.Core.Bool.{true}
use mathlib.Core.Path.{◌≡◌, ap}
use mathlib.Core.List.{List}
use lib.ListN.{get_or}
use Rattle.units.specs.declared.Date.{Date}
use Rattle.units.specs.declared.Volume.{Volume}
use Rattle.units.specs.declared.Rate.{Rate}
use Rattle.units.specs.declared.Delay.{Delay}
use Rattle.units.specs.declared.Interval.{Interval}
use Rattle.units.specs.declared.TxData.{TxData}
use Rattle.units.specs.declared.Bundle.{Bundle}
use Rattle.units.specs.Logged.{Booking, State}
use Rattle.legacy.specs.declared.Choices.{Choices}
use Rattle.legacy.specs.declared.Flags.{Flags}
use Rattle.legacy.specs.declared.Queue.{Queue}
use Rattle.legacy.specs.declared.Booked.{Booked}
use Rattle.legacy.specs.Open.{classes_max, budget_max}
use Rattle.legacy.specs.DryRun.{dry_run_of}
use Rattle.legacy.proofs.Promised.{promised, book-met, Reached}
use Rattle.legacy.proofs.Runs.{run-queued, fresh-none}
use Rattle.legacy.proofs.Reach.{Reached as Led, opened, booked, enqueued, dequeued, queue-low, never-13, full, load, full-13}

module _ {h : Choices} {w : Interval} {r : Rate} {d : Delay} {n : ℕ} {flags : Flags} {budgets : List Volume} {y : State Queue} (q : Reached h w r d n flags budgets y) where
  -- what such calls lead to, the calls as the specs have them lead to
  pub runs-led : Led y.manager
  runs-led =
      run-queued Led (λ x at b dates s. booked x at b dates s) (λ x b s. enqueued x b s) (λ x b s. dequeued x b s) _ y
      (rw q.met.1 (opened h w r d n flags budgets (fresh-none q)))
      q.runs

  pub runs-queue-low : y.manager.flags.self_update ≡ true → (c : ℕ) → (get_or y.manager.queues c (record { 0 = 0 })).0 ≤ (classes_max - c) * budget_max
  runs-queue-low = queue-low y.manager runs-led

  pub runs-never-13 : (at : Date) (b : Bundle) (dates : TxData) (a : Booked) → promised.book y.manager at b dates a → a.number ≡ 13 → ⊥
  runs-never-13 at b dates a p = rw p.1 (never-13 y.manager runs-led at b dates)

-- so no calls lead to a record that is full
pub runs-full-out : {h : Choices} {w : Interval} {r : Rate} {d : Delay} {n : ℕ} {flags : Flags} {budgets : List Volume} {log : List Booking}
    → Reached h w r d n flags budgets (record { manager = full; log = log }) → ⊥
runs-full-out q = runs-never-13 q (record { 0 = 0 }) load (dry_run_of full (record { 0 = 0 }) load).dates _ (book-met full _ load _) (ap (λ (a : Booked). a.number) full-13)
