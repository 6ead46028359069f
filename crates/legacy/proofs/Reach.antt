-- From a fresh opening, by whatever calls, no booking answers 13: under self-update each queue is at most the next one and 2^38 more.
use Prim.Native.Nat.{ℕ, zero, suc, ◌+◌, ◌-◌, ◌*◌, ◌<◌, ◌≤◌}
use mathlib.Core.Bool.{true, false}
use mathlib.Core.Path.{◌≡◌, refl, sym, ap, ◌∙◌}
use mathlib.Core.List.{List, [], ◌∷◌}
use native.Mathlib.Numerals.{add-one}
use native.Mathlib.Omega.{arith}
use lib.ListN.{length, take, get_or, replicate}
use borrow.Author.Tests.{le-leb, eqb-true}
use Rattle.units.specs.declared.Date.{Date}
use Rattle.units.specs.declared.Volume.{Volume}
use Rattle.units.specs.declared.Rate.{Rate}
use Rattle.units.specs.declared.Delay.{Delay}
use Rattle.units.specs.declared.Interval.{Interval}
use Rattle.units.specs.declared.TxData.{TxData}
use Rattle.units.specs.declared.Bundle.{Bundle}
use Rattle.units.specs.declared.Offer.{Offer}
use Rattle.units.specs.Logic.{both, all_of}
use Rattle.units.specs.Limits.{window_ok, load_ok, bundle_ok}
use Rattle.units.specs.Answer.{interval, same_dates, offers}
use Rattle.units.specs.Strict.{strict_ok, forbids}
use Rattle.units.proofs.Logic.{no_both, both-fst, unless-go, all_go, all_none}
use Rattle.legacy.specs.declared.Choices.{Choices}
use Rattle.legacy.specs.declared.Flags.{Flags}
use Rattle.legacy.specs.declared.Queue.{Queue}
use Rattle.legacy.specs.declared.Booked.{Booked}
use Rattle.legacy.specs.Choices.{ported, choices_ok}
use Rattle.legacy.specs.Open.{classes_max, budget_max, rate_ok, budgets_ok, open_of}
use Rattle.legacy.specs.Record.{queue_max, record_ok}
use Rattle.legacy.specs.DryRun.{class_of, queue_at, answer_at, dry_run_of}
use Rattle.legacy.specs.Queueing.{add_to, refused_queueing, with_queues, reached, room_for, enqueue_at, enqueue_of, dequeue_of}
use Rattle.legacy.specs.Book.{book_of}
use Rattle.legacy.proofs.First.{more, add_is, take-is, first-length}
use Rattle.legacy.proofs.Facts.{sound}
use Rattle.legacy.proofs.Offers.{dry-run-is, offer-room, budget-low}
use Rattle.legacy.proofs.Answers.{Offered, put_keeps, pull-keeps, enqueue-keeps, dequeue-keeps, book-keeps}
use Rattle.legacy.proofs.Kept.{opened-is}

-- the queue of the first class
abbrev top : List Volume → ℕ
top l = (get_or l 0 (record { 0 = 0 })).0

-- each queue is at most the next class's and 2^38 more
unfoldable pub Steps : List Volume → Type 0
Steps [] = Unit {0}
Steps (q ∷ l) = (q.0 ≤ top l + budget_max) × Steps l

-- a size that class k has room for: the first class is below k + 1 times 2^38
top-low : (k : ℕ) (l : List Volume) (v : ℕ) → Steps l → (get_or l k (record { 0 = 0 })).0 + v ≤ budget_max → top l + v ≤ (k + 1) * budget_max
unfolding Steps
top-low zero l v s h = omega arith
top-low (suc k) [] v s h = omega arith
top-low (suc k) (q ∷ l) v s h = omega (arith, s.0, top-low k l v s.1 h)

-- so there is room in each
room-all : (k : ℕ) (l : List Volume) (v : ℕ) → k < classes_max → Steps l → (get_or l k (record { 0 = 0 })).0 + v ≤ budget_max → all_of (room_for v) (take (suc k) l) ≡ true
unfolding Steps
room-all k [] v b s h = all_none (room_for v)
room-all zero (q ∷ l) v b s h = all_go (room_for v) q [] (le-leb (q.0 + v) queue_max (omega arith)) ∙ all_none (room_for v)
room-all (suc k) (q ∷ l) v b s h =
    let low : q.0 + v ≤ (suc k + 1) * budget_max = top-low (suc k) (q ∷ l) v s h in
    all_go (room_for v) q (take (suc k) l) (le-leb (q.0 + v) queue_max (omega arith)) ∙ room-all k l v (omega arith) s.1 h

-- and the steps are kept
steps-kept : (k : ℕ) (l : List Volume) (v : ℕ) → k < length l → Steps l → (get_or l k (record { 0 = 0 })).0 + v ≤ budget_max → Steps (add_to (suc k) v l)
unfolding Steps add_to
steps-kept k [] v b s h = tt
steps-kept zero (q ∷ l) v b s h = (omega arith, s.1)
steps-kept (suc k) (q ∷ []) v b s h = absurd (omega arith)
steps-kept (suc k) (q ∷ p ∷ l) v b s h = (omega arith, steps-kept k (p ∷ l) v (omega arith) s.1 h)

-- a booking that meets its dry run has room in its class
class-room : (r : Queue) (at : Date) (b : Bundle) (d : TxData) → Offered r at b d → queue_at r b.priority.0 + b.size.0 ≤ budget_max
unfolding offers
class-room r at b d o =
    let done : (dry_run_of r at b).number ≡ 0 = eqb-true _ _ (both-fst _ _ o.same) in
    let answered : (answer_at r at.0 b).number ≡ 0 = sym (ap (λ (a : Offer). a.number) (dry-run-is r at b o.kept o.fair)) ∙ done in
    omega (arith, offer-room r at.0 b answered, budget-low r b.priority.0 o.kept)

-- the records that calls lead to
pub data Reached : Queue → Type 0 where
  opened : (h : Choices) (w : Interval) (r : Rate) (d : Delay) (n : ℕ) (flags : Flags) (budgets : List Volume) → (open_of h w r d n flags budgets).number ≡ 0
      → Reached (open_of h w r d n flags budgets).manager
  booked : (r : Queue) (at : Date) (b : Bundle) (d : TxData) → Reached r → Reached (book_of r at b d).manager
  enqueued : (r : Queue) (b : Bundle) → Reached r → Reached (enqueue_of r b).manager
  dequeued : (r : Queue) (b : Bundle) → Reached r → Reached (dequeue_of r b).manager

-- what holds of them
pub record Stepped (r : Queue) : Type 0 where
  pub size : length r.queues ≡ classes_max
  pub steps : r.flags.self_update ≡ true → Steps r.queues

abbrev Hands : Booked → Type 0
Hands o = Stepped o.manager

zero-steps : (n : ℕ) → Steps (replicate n (record { 0 = 0 }))
unfolding Steps
zero-steps zero = tt
zero-steps (suc n) = (omega arith, zero-steps n)

module _ (r : Queue) (b : Bundle) (s : Stepped r) where
  abbrev class : ℕ
  class = class_of r.classes b.priority.0

  -- under self-update: a booking that meets its dry run
  module _ (at : Date) (d : TxData) (o : Offered r at b d) (auto : r.flags.self_update ≡ true) where
    class_low : class < classes_max
    class_low = let k = sound r o.kept in omega arith

    pub put-done : (enqueue_at r b).number ≡ 0
    unfolding enqueue_at
    put-done =
        let room : all_of (room_for b.size.0) (take (reached r b) r.queues) ≡ true
        = rw (add-one class) (room-all class r.queues b.size.0 class_low (s.steps auto) (class-room r at b d o)) in
        ap (λ (a : Booked). a.number) (unless-go _ _ _ room)

    put-steps : Stepped (enqueue_at r b).manager
    put-steps =
        put_keeps r b Hands (λ _ _. s)
        (λ _. record {
          size = ap length (add_is (reached r b) b.size.0 r.queues) ∙ first-length (more b.size.0) (reached r b) r.queues ∙ s.size;
          steps = λ _. rw (add-one class) (steps-kept class r.queues b.size.0 (omega (arith, class_low, s.size)) (s.steps auto) (class-room r at b d o));
        })

  -- without it there are no steps to keep
  manual : r.flags.self_update ≡ false → (l : List Volume) → length l ≡ length r.queues → Stepped (with_queues r l)
  manual h l e = record { size = e ∙ s.size; steps = λ k. absurd (no_both k h) }

  enqueue-steps : Stepped (enqueue_of r b).manager
  enqueue-steps =
      enqueue-keeps r b Hands (λ _ _. s)
      (λ m. put_keeps r b Hands (λ _ _. s) (λ _. manual m.manual _ (ap length (add_is (reached r b) b.size.0 r.queues) ∙ first-length _ _ _)))

  dequeue-steps : Stepped (dequeue_of r b).manager
  dequeue-steps =
      dequeue-keeps r b Hands (λ _ _. s)
      (λ m. pull-keeps r b Hands (λ _ _. s) (λ _. manual m.manual _ (ap length (take-is (reached r b) b.size.0 r.queues) ∙ first-length _ _ _)))

  book-steps : (at : Date) (d : TxData) → Stepped (book_of r at b d).manager
  book-steps at d = book-keeps r b Hands at d (λ _ _ _. s) (put-steps at d) s

pub stepped : (r : Queue) → Reached r → Stepped r
stepped _ (opened h w r d n flags budgets e) =
    rw (opened-is h w r d n flags budgets e) (record { size = refl; steps = λ _. zero-steps classes_max })
stepped _ (booked r at b d q) = book-steps r b (stepped r q) at d
stepped _ (enqueued r b q) = enqueue-steps r b (stepped r q)
stepped _ (dequeued r b q) = dequeue-steps r b (stepped r q)

-- so queue c is at most (8 - c) times 2^38, the first at most 2^41
steps_low : (l : List Volume) (c : ℕ) → Steps l → (get_or l c (record { 0 = 0 })).0 ≤ (length l - c) * budget_max
unfolding Steps
steps_low [] c s = omega arith
steps_low (q ∷ l) zero s = omega (arith, s.0, steps_low l 0 s.1)
steps_low (q ∷ l) (suc c) s = omega (arith, steps_low l c s.1)

pub queue-low : (r : Queue) → Reached r → r.flags.self_update ≡ true → (c : ℕ) → (get_or r.queues c (record { 0 = 0 })).0 ≤ (classes_max - c) * budget_max
queue-low r q auto c =
    let s = stepped r q in
    rw s.size at (steps_low r.queues c (s.steps auto))

pub never-13 : (r : Queue) → Reached r → (at : Date) (b : Bundle) (d : TxData) → (book_of r at b d).number ≡ 13 → ⊥
never-13 r q at b d =
    book-keeps r b (λ (a : Booked). a.number ≡ 13 → ⊥) at d (λ n h k e. omega arith)
    (λ o auto e. omega (arith, put-done r b (stepped r q) at d o auto)) (λ e. omega arith)

-- a valid record: its first queue is full, and a booking of class 1 answers 13
abbrev pub full : Queue
full =
    record {
      choices = ported;
      window = interval 0 10;
      rate = record { 0 = 10 };
      delay = record { 0 = 2 };
      classes = 2;
      flags = record { add_delay = false; self_update = true; budgeted = false };
      queues = record { 0 = queue_max } ∷ replicate 7 (record { 0 = 0 });
      budgets = replicate classes_max (record { 0 = 0 });
    }

abbrev pub load : Bundle
load = record { size = record { 0 = 25 }; priority = record { 0 = 1 } }

pub full-ok : record_ok full ≡ true
unfolding record_ok choices_ok strict_ok open_of window_ok rate_ok budgets_ok both all_of
full-ok = refl

pub full-13 : book_of full (record { 0 = 0 }) load (dry_run_of full (record { 0 = 0 }) load).dates ≡ refused_queueing 13 full
unfolding book_of forbids enqueue_at offers same_dates dry_run_of answer_at record_ok choices_ok strict_ok bundle_ok load_ok open_of window_ok rate_ok budgets_ok both all_of
full-13 = refl

-- so no calls lead to it
pub full-out : Reached full → ⊥
full-out q = never-13 full q _ _ _ (ap (λ (a : Booked). a.number) full-13)
