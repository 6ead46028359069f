-- After any calls from an opening on, manual queueing among them: the record keeps its rules, so no call on it answers 1; its figures are those that were opened.
use Prim.Native.Nat.{ℕ, ◌+◌, ◌/◌}
use mathlib.Core.Bool.{true, false}
use mathlib.Core.Path.{◌≡◌, refl, sym, ap, ◌∙◌}
use mathlib.Core.List.{List}
use mathlib.Core.Logic.{⊎_elim}
use native.Mathlib.Omega.{arith}
use lib.Dec.{leb}
use lib.ListN.{take}
use Rattle.units.specs.declared.Date.{Date}
use Rattle.units.specs.declared.Volume.{Volume}
use Rattle.units.specs.declared.Rate.{Rate}
use Rattle.units.specs.declared.Delay.{Delay}
use Rattle.units.specs.declared.Interval.{Interval}
use Rattle.units.specs.declared.TxData.{TxData}
use Rattle.units.specs.declared.Bundle.{Bundle}
use Rattle.units.specs.declared.Offer.{Offer}
use Rattle.units.specs.Logic.{all_of}
use Rattle.units.specs.Limits.{load_ok}
use Rattle.units.specs.Logged.{State, Runs, Never}
use Rattle.units.proofs.Logic.{no_both, unless-keeps, pick-keeps}
use Rattle.units.proofs.Determined.{Met}
use Rattle.units.proofs.Logged.{run-keeps}
use Rattle.units.proofs.Tables.{tables-never}
use Rattle.legacy.specs.declared.Choices.{Choices}
use Rattle.legacy.specs.declared.Flags.{Flags}
use Rattle.legacy.specs.declared.Queue.{Queue}
use Rattle.legacy.specs.declared.Opened.{Opened}
use Rattle.legacy.specs.declared.Booked.{Booked}
use Rattle.legacy.specs.declared.Listing.{Listing}
use Rattle.legacy.specs.Open.{at_least, open_of}
use Rattle.legacy.specs.Record.{record_ok}
use Rattle.legacy.specs.DryRun.{queue_at, budget_at, start_at, answer_at}
use Rattle.legacy.specs.Queueing.{refused_queueing, reached, room_for, enqueue_at, dequeue_at, manually, enqueue_of, dequeue_of}
use Rattle.legacy.specs.Book.{book_of}
use Rattle.legacy.specs.List.{list_of}
use Rattle.legacy.proofs.Answers.{put_keeps, pull-keeps, enqueue-keeps, dequeue-keeps, book-keeps}
use Rattle.legacy.proofs.Kept.{opened-is, opened-ok, enqueue-ok, dequeue-ok, book-ok}
use Rattle.legacy.proofs.Promised.{promised, tables, Reached}
use Rattle.legacy.proofs.Queue.enqueue.Reads as enqueue-reads
use Rattle.legacy.proofs.Queue.dequeue.Reads as dequeue-reads

-- what every booking, enqueue and dequeue keeps, any calls keep
module _ (P : Queue → Type 0)
    (book : (r : Queue) (at : Date) (b : Bundle) (d : TxData) → P r → P (book_of r at b d).manager)
    (enqueue : (r : Queue) (b : Bundle) → P r → P (enqueue_of r b).manager)
    (dequeue : (r : Queue) (b : Bundle) → P r → P (dequeue_of r b).manager) where
  pub run-queued : (x y : State Queue) → P x.manager → Runs promised x y → P y.manager
  run-queued =
      run-keeps promised (λ x. P x.manager)
      (λ x at b d a p q. rw p.1 (book x.manager at b d q))
      (λ x a p q.
      ⊎_elim
      (λ (e : Met (enqueue-reads.Post tt (x.manager, (p.0, tt))) a). rw e.1 (enqueue x.manager p.0 q))
      (λ (e : Met (dequeue-reads.Post tt (x.manager, (p.0, tt))) a). rw e.1 (dequeue x.manager p.0 q))
      p.1)

-- what a record has besides its queues
abbrev pub figures : Queue → Choices × Interval × Rate × Delay × ℕ × Flags × (List Volume)
figures r = (r.choices, r.window, r.rate, r.delay, r.classes, r.flags, r.budgets)

-- no call changes it
module _ (r : Queue) (b : Bundle) where
  abbrev Same : Booked → Type 0
  Same a = figures a.manager ≡ figures r

  put_same : Same (enqueue_at r b)
  put_same = put_keeps r b Same (λ _ _. refl) (λ _. refl)

  enqueue-same : Same (enqueue_of r b)
  enqueue-same = enqueue-keeps r b Same (λ _ _. refl) (λ _. put_same)

  dequeue-same : Same (dequeue_of r b)
  dequeue-same = dequeue-keeps r b Same (λ _ _. refl) (λ _. pull-keeps r b Same (λ _ _. refl) (λ _. refl))

  book-same : (at : Date) (d : TxData) → Same (book_of r at b d)
  book-same at d = book-keeps r b Same at d (λ _ _ _. refl) (λ _ _. put_same) refl

pub run-figures : (x y : State Queue) → Runs promised x y → figures y.manager ≡ figures x.manager
run-figures x y =
    run-queued (λ r. figures r ≡ figures x.manager) (λ r at b d q. book-same r b at d ∙ q) (λ r b q. enqueue-same r b ∙ q) (λ r b q. dequeue-same r b ∙ q) x y refl

pub run_ok : (x y : State Queue) → record_ok x.manager ≡ true → Runs promised x y → record_ok y.manager ≡ true
run_ok = run-queued (λ r. record_ok r ≡ true) (λ r at b d ok. book-ok r b ok at d) (λ r b ok. enqueue-ok r b ok) (λ r b ok. dequeue-ok r b ok)

-- the numbers of the manager's own answers: an offer's 0 and 7, and 0 and 13 of what is queued
module _ (r : Queue) (b : Bundle) (n : ℕ) (none : n ≡ 0 → ⊥) where
  pub answer-number : (n ≡ 7 → ⊥) → (t : ℕ) → (answer_at r t b).number ≡ n → ⊥
  unfolding answer_at
  answer-number seven t =
      let s = start_at r t (queue_at r b.priority.0) in
      unless-keeps (λ (o : Offer). o.number ≡ n → ⊥) (leb (queue_at r b.priority.0 + b.size.0) (budget_at r b.priority.0)) _ _ (λ f h. seven (sym h))
      (λ f. unless-keeps (λ (o : Offer). o.number ≡ n → ⊥) (leb (s + b.size.0 / r.rate.0) r.window.end.0) _ _ (λ g h. seven (sym h)) (λ g h. none (sym h)))

  module _ (other : n ≡ 13 → ⊥) where
    pub put-number : (enqueue_at r b).number ≡ n → ⊥
    unfolding enqueue_at
    put-number = unless-keeps (λ (a : Booked). a.number ≡ n → ⊥) (all_of (room_for b.size.0) (take (reached r b) r.queues)) _ _ (λ f h. other (sym h)) (λ f h. none (sym h))

    pull-number : (dequeue_at r b).number ≡ n → ⊥
    unfolding dequeue_at
    pull-number = unless-keeps (λ (a : Booked). a.number ≡ n → ⊥) (all_of (at_least b.size.0) (take (reached r b) r.queues)) _ _ (λ f h. other (sym h)) (λ f h. none (sym h))

    -- a record that keeps its rules, or a number other than 1
    module _ (one : record_ok r ≡ false → 1 ≡ n → ⊥) (two : 2 ≡ n → ⊥) (twelve : 12 ≡ n → ⊥) where
      manual-number : (done : Booked) → (done.number ≡ n → ⊥) → (manually r b done).number ≡ n → ⊥
      manual-number done own =
          unless-keeps (λ (a : Booked). a.number ≡ n → ⊥) (record_ok r) _ _ one
          (λ k. unless-keeps (λ (a : Booked). a.number ≡ n → ⊥) (load_ok b) _ _ (λ f. two)
          (λ f. pick-keeps (λ (a : Booked). a.number ≡ n → ⊥) r.flags.self_update _ _ (λ g. twelve) (λ g. own)))

      pub enqueue-number : (enqueue_of r b).number ≡ n → ⊥
      unfolding enqueue_of
      enqueue-number = manual-number (enqueue_at r b) put-number

      pub dequeue-number : (dequeue_of r b).number ≡ n → ⊥
      unfolding dequeue_of
      dequeue-number = manual-number (dequeue_at r b) pull-number

-- a number that none of its answers has
module _ (r : Queue) (n : ℕ) (none : n ≡ 0 → ⊥) (seven : n ≡ 7 → ⊥) (thirteen : n ≡ 13 → ⊥) (one : record_ok r ≡ false → 1 ≡ n → ⊥) (others : (2 ≡ n → ⊥) × (9 ≡ n → ⊥) × (17 ≡ n → ⊥)) (twelve : 12 ≡ n → ⊥) where
  pub queue-never : Never promised n r
  unfolding tables list_of
  queue-never =
      tables-never promised refused_queueing tables n r one others
      (λ at b kept fits. answer-number r b n none seven at.0)
      (λ at b. pick-keeps (λ (a : Booked). a.number ≡ n → ⊥) r.flags.self_update _ _ (λ g. put-number r b n none thirteen) (λ g h. none (sym h)))
      (unless-keeps (λ (o : Listing). o.number ≡ n → ⊥) (record_ok r) _ _ one (λ f h. none (sym h)))
      (λ a p e.
      ⊎_elim
      (λ (m : Met (enqueue-reads.Post tt (r, (p.0, tt))) a). enqueue-number r p.0 n none thirteen one others.0 twelve (sym (ap (λ (x : Booked). x.number) m.1) ∙ e))
      (λ (m : Met (dequeue-reads.Post tt (r, (p.0, tt))) a). dequeue-number r p.0 n none thirteen one others.0 twelve (sym (ap (λ (x : Booked). x.number) m.1) ∙ e))
      p.1)

-- no call on a record that keeps its rules answers 1, and none on any record 8
pub kept-never-1 : (r : Queue) → record_ok r ≡ true → Never promised 1 r
kept-never-1 r ok =
    queue-never r 1 (λ e. omega arith) (λ e. omega arith) (λ e. omega arith) (λ no e. no_both ok no) (λ e. omega arith, λ e. omega arith, λ e. omega arith) (λ e. omega arith)

pub never-8 : (r : Queue) → Never promised 8 r
never-8 r =
    queue-never r 8 (λ e. omega arith) (λ e. omega arith) (λ e. omega arith) (λ no e. omega arith) (λ e. omega arith, λ e. omega arith, λ e. omega arith) (λ e. omega arith)

-- from an opening on
module _ {h : Choices} {w : Interval} {r : Rate} {d : Delay} {n : ℕ} {flags : Flags} {budgets : List Volume} {y : State Queue} (q : Reached h w r d n flags budgets y) where
  pub fresh-none : (open_of h w r d n flags budgets).number ≡ 0
  fresh-none = sym (ap (λ (x : Opened). x.number) q.met.1) ∙ q.accepted

  -- the record keeps its rules
  pub reached-ok : record_ok y.manager ≡ true
  reached-ok = run_ok _ y (rw q.met.1 (opened-ok h w r d n flags budgets fresh-none)) q.runs

  -- so no sequence of calls meets 1
  pub reached-never-1 : Never promised 1 y.manager
  reached-never-1 = kept-never-1 y.manager reached-ok

  -- all but its queues is the opening's
  pub reached-figures : figures y.manager ≡ (h, w, r, d, n, flags, budgets)
  reached-figures = run-figures _ y q.runs ∙ ap (λ (x : Opened). figures x.manager) q.met.1 ∙ ap figures (opened-is h w r d n flags budgets fresh-none)
