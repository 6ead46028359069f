-- The offer, test by test, from what the code has worked out: the queue, the budget, the start and the two arrivals.
use Prim.Native.Nat.{ℕ, ◌+◌, ◌/◌, ◌<◌, ◌≤◌}
use mathlib.Core.Bool.{true, false}
use mathlib.Core.Path.{◌≡◌, refl, sym, ap, ◌∙◌}
use native.Mathlib.Nat.{div-le_self}
use native.Mathlib.Omega.{arith}
use lib.Dec.{leb}
use borrow.Author.Tests.{le-leb, lt-leb, leb-true}
use Rattle.units.specs.declared.Date.{Date}
use Rattle.units.specs.declared.Volume.{Volume}
use Rattle.units.specs.declared.Bundle.{Bundle}
use Rattle.units.specs.declared.Offer.{Offer}
use Rattle.units.specs.declared.TxData.{TxData}
use Rattle.units.specs.Logic.{pick}
use Rattle.units.specs.Limits.{date_max, volume_max, bundle_ok}
use Rattle.units.specs.Answer.{refused, offered, offers, booking_of}
use Rattle.units.specs.Strict.{forbids}
use Rattle.units.specs.Granted.{refusal_of}
use Rattle.units.proofs.Logic.{pick-keeps, unless-keeps, unless-go, unless-stop}
use Rattle.units.proofs.Booking.{booking-refused, booking-fits, booking-done}
use Rattle.units.proofs.Loads.{asked-load, load}
use Rattle.legacy.specs.declared.Queue.{Queue}
use Rattle.legacy.specs.declared.Booked.{Booked}
use Rattle.legacy.specs.Record.{queue_max, strict_of, record_ok}
use Rattle.legacy.specs.DryRun.{class_of, queue_at, budget_at, start_at, answer_at, dry_run_of}
use Rattle.legacy.specs.Queueing.{refused_queueing, enqueue_at}
use Rattle.legacy.specs.Book.{book_of}
use Rattle.legacy.proofs.Facts.{sound}
use Rattle.legacy.specs.Open.{budget_max}

-- the start is not far past the limit of dates
start-low : (r : Queue) (t q : ℕ) → r.window.start.0 ≤ date_max → t ≤ date_max → q ≤ queue_max → start_at r t q ≤ date_max + queue_max
start-low r t q h k m =
    let w : q / r.rate.0 ≤ q = div-le_self q r.rate.0 in
    let P : ℕ → Type 0 = λ (n : ℕ). n ≤ date_max + queue_max in
    pick-keeps P r.flags.add_delay _ _ (λ _. pick-keeps P r.flags.self_update _ _ (λ _. omega arith) (λ _. omega arith)) (λ _. omega arith)

-- a queue of such a record
pub queued : (r : Queue) (p q : ℕ) → record_ok r ≡ true → q ≡ queue_at r p → q ≤ queue_max
queued r p q ok e = rw e ((sound r ok).queue (class_of r.classes p))

pub begun : (r : Queue) (t p q s : ℕ) → record_ok r ≡ true → t ≤ date_max → q ≡ queue_at r p → s ≡ start_at r t q → s ≤ date_max + queue_max
begun r t p q s ok h k e = let w = (sound r ok).window in rw e (start-low r t q (omega arith) h (queued r p q ok k))

-- four dates with these numbers are the offer
dated : (start end first last : Date) (s e d : ℕ) → start.0 ≡ s → end.0 ≡ e → first.0 ≡ start.0 + d → last.0 ≡ end.0 + d
    → offered s e d d ≡ record { number = 0; dates = record { send = record { start = start; end = end }; recv = record { start = first; end = last } } }
dated start end first last s e d hs he hf hl = rw (← hs, ← he, ← hf, ← hl)

-- an offer has room in the budget
pub offer-room : (r : Queue) (t : ℕ) (b : Bundle) → (answer_at r t b).number ≡ 0 → queue_at r b.priority.0 + b.size.0 ≤ budget_at r b.priority.0
unfolding answer_at
offer-room r t b =
    let p = b.priority.0 in
    unless-keeps (λ (o : Offer). o.number ≡ 0 → queue_at r p + b.size.0 ≤ budget_at r p) (leb (queue_at r p + b.size.0) (budget_at r p)) _ _
    (λ _ e. absurd (omega arith)) (λ h _. leb-true _ _ h)

-- and a budget is at most 2^38
pub budget-low : (r : Queue) (p : ℕ) → record_ok r ≡ true → budget_at r p ≤ budget_max
budget-low r p ok =
    let s = sound r ok in
    pick-keeps (λ (n : ℕ). n ≤ budget_max) r.flags.budgeted _ _ (λ _. s.budget (class_of r.classes p)) (λ _. s.total)

module _ (r : Queue) (t : ℕ) (b : Bundle) (queue budget : Volume)
    (q : queue.0 ≡ queue_at r b.priority.0) (g : budget.0 ≡ budget_at r b.priority.0) where
  pub answer-over : budget.0 < queue.0 + b.size.0 → answer_at r t b ≡ refused 7
  unfolding answer_at
  answer-over h =
      let over : budget_at r b.priority.0 < queue_at r b.priority.0 + b.size.0 = omega arith in unless-stop _ _ _ (lt-leb _ _ over)

  module _ (h : queue.0 + b.size.0 ≤ budget.0) (start : Date) (s : start.0 ≡ start_at r t queue.0) where
    starts : start.0 ≡ start_at r t (queue_at r b.priority.0)
    starts = s ∙ ap (start_at r t) q

    fits : leb (queue_at r b.priority.0 + b.size.0) (budget_at r b.priority.0) ≡ true
    fits = let k : queue_at r b.priority.0 + b.size.0 ≤ budget_at r b.priority.0 = omega arith in le-leb _ _ k

    ends : start.0 + b.size.0 / r.rate.0 ≡ start_at r t (queue_at r b.priority.0) + b.size.0 / r.rate.0
    ends = ap (λ (n : ℕ). n + b.size.0 / r.rate.0) starts

    pub answer-late : r.window.end.0 < start.0 + b.size.0 / r.rate.0 → answer_at r t b ≡ refused 7
    unfolding answer_at
    answer-late k = unless-go _ _ _ fits ∙ unless-stop _ _ _ (lt-leb _ _ (rw ends at k))

    pub answer-dates : (end first last : Date) → end.0 ≡ start.0 + b.size.0 / r.rate.0 → end.0 ≤ r.window.end.0
        → first.0 ≡ start.0 + r.delay.0
        → last.0 ≡ end.0 + r.delay.0
        → answer_at r t b ≡ record { number = 0; dates = record { send = record { start = start; end = end }; recv = record { start = first; end = last } } }
    unfolding answer_at
    answer-dates end first last e k f l =
        unless-go _ _ _ fits
        ∙ unless-go _ _ _ (le-leb _ _ (rw (e, ends) at k))
        ∙ dated start end first last _ _ _ starts (e ∙ ends) f l

-- past the two refusals the dry run is the offer
pub dry-run-is : (r : Queue) (at : Date) (b : Bundle) → record_ok r ≡ true → bundle_ok at b ≡ true → dry_run_of r at b ≡ answer_at r at.0 b
unfolding dry_run_of
dry-run-is r at b h k = unless-go _ _ _ h ∙ unless-go _ _ _ k

-- a dry run that is no offer has zero dates
pub dry-run-refused : (r : Queue) (at : Date) (b : Bundle) → ((dry_run_of r at b).number ≡ 0 → ⊥) → dry_run_of r at b ≡ refused (dry_run_of r at b).number
unfolding dry_run_of answer_at
dry-run-refused r at b =
    let P : Offer → Type 0 = λ (o : Offer). (o.number ≡ 0 → ⊥) → o ≡ refused o.number in
    let queue = queue_at r b.priority.0 in
    unless-keeps P (record_ok r) _ _ (λ _ _. refl)
    (λ _. unless-keeps P (bundle_ok at b) _ _ (λ _ _. refl)
    (λ _. unless-keeps P (leb (queue + b.size.0) (budget_at r b.priority.0)) _ _ (λ _ _. refl)
    (λ _. unless-keeps P (leb (start_at r at.0 queue + b.size.0 / r.rate.0) r.window.end.0) _ _ (λ _ _. refl) (λ _ f. absurd (f refl)))))

-- A booking on a record that keeps its rules, by its dry run's answer.
answer-not-two : (r : Queue) (t : ℕ) (b : Bundle) → (answer_at r t b).number ≡ 2 → ⊥
unfolding answer_at
answer-not-two r t b =
    let P : Offer → Type 0 = λ (o : Offer). o.number ≡ 2 → ⊥ in
    let queue = queue_at r b.priority.0 in
    unless-keeps P (leb (queue + b.size.0) (budget_at r b.priority.0)) _ _ (λ _ e. omega arith)
    (λ _. unless-keeps P (leb (start_at r t queue + b.size.0 / r.rate.0) r.window.end.0) _ _ (λ _ e. omega arith) (λ _ e. omega arith))

module _ (r : Queue) (at : Date) (b : Bundle) (d : TxData) (ok : record_ok r ≡ true) where
  abbrev done : Booked
  done = pick r.flags.self_update (enqueue_at r b) (record { number = 0; manager = r })

  abbrev refuse : ℕ → Booked
  refuse n = refused_queueing n r

  two : bundle_ok at b ≡ false → (dry_run_of r at b).number ≡ 2
  unfolding dry_run_of
  two e = ap (λ (o : Offer). o.number) (unless-go _ _ _ ok ∙ unless-stop _ _ _ e)

  not-two : bundle_ok at b ≡ true → (dry_run_of r at b).number ≡ 2 → ⊥
  not-two e h = answer-not-two r at.0 b (sym (ap (λ (o : Offer). o.number) (dry-run-is r at b ok e)) ∙ h)

  book-is : book_of r at b d ≡ booking_of true (bundle_ok at b) (offers (dry_run_of r at b) d) (forbids (strict_of r) d.send) refuse done
  unfolding book_of
  book-is = unless-go _ _ _ ok

  pub dry-refused : (refusal_of (strict_of r) (dry_run_of r at b) d ≡ 0 → ⊥) → book_of r at b d ≡ refused_queueing (refusal_of (strict_of r) (dry_run_of r at b) d) r
  dry-refused some = book-is ∙ booking-refused (strict_of r) (dry_run_of r at b) d (bundle_ok at b) refuse done two not-two some

  module _ (none : refusal_of (strict_of r) (dry_run_of r at b) d ≡ 0) where
    pub dry-done : book_of r at b d ≡ pick r.flags.self_update (enqueue_at r b) (record { number = 0; manager = r })
    dry-done = book-is ∙ booking-done (strict_of r) (dry_run_of r at b) d (bundle_ok at b) refuse done two none

    pub dry-small : b.size.0 ≤ volume_max
    dry-small = (load b (asked-load at b (booking-fits (strict_of r) (dry_run_of r at b) d (bundle_ok at b) refuse done two none))).size
