-- The queue manager by what its calls promise in src/: its calls with a log, 01's tables of them, and what any calls from an opening on lead to.
use Prim.Native.Nat.{ℕ}
use mathlib.Core.Path.{◌≡◌, refl}
use mathlib.Core.List.{List}
use mathlib.Core.Logic.{◌⊎◌}
use Rattle.units.specs.declared.Volume.{Volume}
use Rattle.units.specs.declared.Rate.{Rate}
use Rattle.units.specs.declared.Delay.{Delay}
use Rattle.units.specs.declared.Date.{Date}
use Rattle.units.specs.declared.Interval.{Interval}
use Rattle.units.specs.declared.TxData.{TxData}
use Rattle.units.specs.declared.Bundle.{Bundle}
use Rattle.units.specs.Logic.{pick}
use Rattle.units.specs.Logged.{Calls, State, RunsFrom}
use Rattle.units.proofs.Determined.{Met}
use Rattle.units.proofs.Tables.{Tables}
use Rattle.legacy.specs.declared.Choices.{Choices}
use Rattle.legacy.specs.declared.Flags.{Flags}
use Rattle.legacy.specs.declared.Queue.{Queue}
use Rattle.legacy.specs.declared.Opened.{Opened}
use Rattle.legacy.specs.declared.Booked.{Booked}
use Rattle.legacy.specs.declared.Listing.{Listing}
use Rattle.legacy.specs.Record.{strict_of, record_ok}
use Rattle.legacy.specs.Open.{open_of}
use Rattle.legacy.specs.DryRun.{dry_run_of, answer_at}
use Rattle.legacy.specs.Queueing.{refused_queueing, enqueue_at, enqueue_of, dequeue_of}
use Rattle.legacy.specs.Book.{book_of}
use Rattle.legacy.specs.List.{list_of}
use Rattle.legacy.proofs.Queue.open.Reads as open-reads
use Rattle.legacy.proofs.Queue.dry_run.Reads as dry-run-reads
use Rattle.legacy.proofs.Queue.book.Reads as book-reads
use Rattle.legacy.proofs.Queue.list.Reads as list-reads
use Rattle.legacy.proofs.Queue.enqueue.Reads as enqueue-reads
use Rattle.legacy.proofs.Queue.dequeue.Reads as dequeue-reads

-- the further calls: manual queueing
abbrev pub queued : Queue → Booked → Type 0
queued r a = (b : Bundle) × ((Met (enqueue-reads.Post tt (r, (b, tt))) a) ⊎ (Met (dequeue-reads.Post tt (r, (b, tt))) a))

abbrev pub promised : Calls
promised =
    record {
      Manager = Queue;
      Booked = Booked;
      Listing = Listing;
      dry_run = λ r at b o. Met (dry-run-reads.Post tt (r, (at, (b, tt)))) o;
      book = λ r at b d a. Met (book-reads.Post tt (r, (at, (b, (d, tt))))) a;
      list = λ r o. Met (list-reads.Post tt (r, tt)) o;
      further = queued;
      number = λ (a : Booked). a.number;
      after = λ (a : Booked). a.manager;
      shown = λ (o : Listing). o.number;
    }

unfoldable pub tables : Tables promised refused_queueing
unfolding dry_run_of book_of
tables =
    record {
      kept = record_ok;
      strict = strict_of;
      answer = λ r at b. answer_at r at.0 b;
      booked = λ r at b. pick r.flags.self_update (enqueue_at r b) (record { number = 0; manager = r });
      listing = list_of;
      dry-run-is = λ r at b o p. p.1;
      book-is = λ r at b d a p. p.1;
      list-is = λ r o p. p.1;
      refuse-number = λ n r. refl;
    }

-- each promise can be met
pub open-met : (h : Choices) (w : Interval) (r : Rate) (d : Delay) (n : ℕ) (flags : Flags) (budgets : List Volume) → Met (open-reads.Post tt (h, (w, (r, (d, (n, (flags, (budgets, tt)))))))) (open_of h w r d n flags budgets)
open-met h w r d n flags budgets = ((h, (w, (r, (d, (n, (flags, (budgets, tt))))))), refl)

pub dry-run-met : (r : Queue) (at : Date) (b : Bundle) → promised.dry_run r at b (dry_run_of r at b)
dry-run-met r at b = ((r, (at, (b, tt))), refl)

pub book-met : (r : Queue) (at : Date) (b : Bundle) (d : TxData) → promised.book r at b d (book_of r at b d)
book-met r at b d = ((r, (at, (b, (d, tt)))), refl)

pub enqueue-met : (r : Queue) (b : Bundle) → Met (enqueue-reads.Post tt (r, (b, tt))) (enqueue_of r b)
enqueue-met r b = ((r, (b, tt)), refl)

pub dequeue-met : (r : Queue) (b : Bundle) → Met (dequeue-reads.Post tt (r, (b, tt))) (dequeue_of r b)
dequeue-met r b = ((r, (b, tt)), refl)

pub list-met : (r : Queue) → promised.list r (list_of r)
list-met r = ((r, tt), refl)

-- an opening with these figures was accepted, and any calls, each on the record that the last one handed back, lead to y
pub record Reached (h : Choices) (w : Interval) (r : Rate) (d : Delay) (n : ℕ) (flags : Flags) (budgets : List Volume) (y : State Queue) : Type 0 where
  pub opened : Opened
  pub met : Met (open-reads.Post tt (h, (w, (r, (d, (n, (flags, (budgets, tt)))))))) opened
  pub accepted : opened.number ≡ 0
  pub runs : RunsFrom promised opened.manager y
