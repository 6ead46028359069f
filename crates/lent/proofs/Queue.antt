-- The queue manager through every door: a run of lent calls and of kept ones, by value and lent, is a run of the manager's total calls; so what
-- is proved of these is proved of those.
use Prim.Native.Nat.{ℕ}
use mathlib.Core.Path.{◌≡◌, ap, ◌∙◌}
use mathlib.Core.List.{List}
use mathlib.Core.Logic.{⊎_elim, ◌⊎◌, inl, inr}
use Rattle.units.specs.declared.Date.{Date}
use Rattle.units.specs.declared.Volume.{Volume}
use Rattle.units.specs.declared.Rate.{Rate}
use Rattle.units.specs.declared.Delay.{Delay}
use Rattle.units.specs.declared.Interval.{Interval}
use Rattle.units.specs.declared.TxData.{TxData}
use Rattle.units.specs.declared.Bundle.{Bundle}
use Rattle.units.specs.declared.Offer.{Offer}
use Rattle.units.specs.Logged.{Calls, State, promising, Runs, RunsFrom}
use Rattle.units.proofs.Determined.{Met}
use Rattle.units.proofs.Logged.{run-into}
use Rattle.legacy.specs.declared.Choices.{Choices}
use Rattle.legacy.specs.declared.Flags.{Flags}
use Rattle.legacy.specs.declared.Queue.{Queue}
use Rattle.legacy.specs.declared.Opened.{Opened}
use Rattle.legacy.specs.declared.Booked.{Booked}
use Rattle.legacy.specs.Open.{open_of}
use Rattle.legacy.specs.DryRun.{dry_run_of}
use Rattle.legacy.specs.Queueing.{enqueue_of, dequeue_of}
use Rattle.legacy.specs.Book.{book_of}
use Rattle.legacy.specs.List.{list_of}
use Rattle.legacy.proofs.Promised.{promised, dry-run-met, book-met, list-met, open-met, enqueue-met, dequeue-met, Reached}
use Rattle.legacy.proofs.Queue.dry_run_kept.Reads as kept-dry-reads
use Rattle.legacy.proofs.Queue.book_kept.Reads as kept-book-reads
use Rattle.legacy.proofs.Queue.enqueue_kept.Reads as kept-enqueue-reads
use Rattle.legacy.proofs.Queue.dequeue_kept.Reads as kept-dequeue-reads
use Rattle.howrekano.proofs.Unique.{Answered, Stored}

-- every door: a call lent, total or kept, which promise the same; a kept one by value
abbrev Dry : Queue → Date → Bundle → Offer → Type 0
Dry r at b o = (Answered (dry_run_of r at b) o) ⊎ (Met (kept-dry-reads.Post tt (r, (at, (b, tt)))) o)

abbrev Book : Queue → Date → Bundle → TxData → Booked → Type 0
Book r at b d x = (Stored (book_of r at b d).number (book_of r at b d).manager x.number x.manager) ⊎ (Met (kept-book-reads.Post tt (r, (at, (b, (d, tt))))) x)

-- manual queueing likewise
abbrev Queued : Queue → Booked → Type 0
Queued r x =
    (b : Bundle)
    × (((Stored (enqueue_of r b).number (enqueue_of r b).manager x.number x.manager) ⊎ (Met (kept-enqueue-reads.Post tt (r, (b, tt))) x))
    ⊎ ((Stored (dequeue_of r b).number (dequeue_of r b).manager x.number x.manager) ⊎ (Met (kept-dequeue-reads.Post tt (r, (b, tt))) x)))

abbrev pub doors : Calls
doors = promising promised Dry Book (λ r o. Answered (list_of r) o) Queued

abbrev made : ℕ → Queue → Booked
made n m = record { number = n; manager = m }

one : (x y : Booked) → x.number ≡ y.number → x.manager ≡ y.manager → x ≡ y
one x y e f = ap (λ (n : ℕ). made n x.manager) e ∙ ap (made y.number) f

dry-is : (r : Queue) (at : Date) (b : Bundle) (o : Offer) → Dry r at b o → o ≡ dry_run_of r at b
dry-is r at b o = ⊎_elim (λ (p : Answered (dry_run_of r at b) o). p) (λ (p : Met (kept-dry-reads.Post tt (r, (at, (b, tt)))) o). p.1)

book-is : (r : Queue) (at : Date) (b : Bundle) (d : TxData) (x : Booked) → Book r at b d x → x ≡ book_of r at b d
book-is r at b d x =
    ⊎_elim (λ (p : Stored (book_of r at b d).number (book_of r at b d).manager x.number x.manager). one x (book_of r at b d) p.0 p.1)
    (λ (p : Met (kept-book-reads.Post tt (r, (at, (b, (d, tt))))) x). p.1)

queued-is : (r : Queue) (x : Booked) → Queued r x → promised.further r x
queued-is r x (b, e) =
    ⊎_elim
    (λ (p : (Stored (enqueue_of r b).number (enqueue_of r b).manager x.number x.manager) ⊎ (Met (kept-enqueue-reads.Post tt (r, (b, tt))) x)).
    let is : x ≡ enqueue_of r b = ⊎_elim (λ (s : Stored (enqueue_of r b).number (enqueue_of r b).manager x.number x.manager). one x (enqueue_of r b) s.0 s.1) (λ (k : Met (kept-enqueue-reads.Post tt (r, (b, tt))) x). k.1) p in
    (b, inl (rw is (enqueue-met r b))))
    (λ (p : (Stored (dequeue_of r b).number (dequeue_of r b).manager x.number x.manager) ⊎ (Met (kept-dequeue-reads.Post tt (r, (b, tt))) x)).
    let is : x ≡ dequeue_of r b = ⊎_elim (λ (s : Stored (dequeue_of r b).number (dequeue_of r b).manager x.number x.manager). one x (dequeue_of r b) s.0 s.1) (λ (k : Met (kept-dequeue-reads.Post tt (r, (b, tt))) x). k.1) p in
    (b, inr (rw is (dequeue-met r b))))
    e

-- a run through any doors, call by call, is a run of the total calls
pub doors-run : (x y : State Queue) → Runs doors x y → Runs promised x y
doors-run x y =
    run-into promised (λ r. Unit {0}) (λ r at b d a p ok. tt) (λ r a p ok. tt) Dry Book (λ r o. Answered (list_of r) o) Queued
    (λ r ok at b o p. rw (dry-is r at b o p) (dry-run-met r at b))
    (λ r ok at b d a p. rw (book-is r at b d a p) (book-met r at b d))
    (λ r o p. rw p (list-met r))
    queued-is x y tt

-- from an opening by hk_queue_open on
pub doors-reached : (h : Choices) (w : Interval) (r : Rate) (d : Delay) (n : ℕ) (flags : Flags) (budgets : List Volume) (o : Opened) (y : State Queue)
    → Answered (open_of h w r d n flags budgets) o → o.number ≡ 0 → RunsFrom doors o.manager y → Reached h w r d n flags budgets y
doors-reached h w r d n flags budgets o y opens zero runs =
    record { opened = o; met = rw opens (open-met h w r d n flags budgets); accepted = zero; runs = doors-run _ y runs }
