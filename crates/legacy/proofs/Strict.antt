-- 02, R-7, of the queue manager's promises: every other call answers, and alters the record, as with the flag off; of what 17 is answered.
use Prim.Native.Nat.{ℕ}
use mathlib.Core.Bool.{true}
use mathlib.Core.Path.{◌≡◌, refl, sym, ap, ◌∙◌}
use mathlib.Core.List.{List}
use native.Mathlib.Omega.{arith}
use lib.Dec.{leb, eqb}
use lib.ListN.{take}
use Rattle.units.specs.declared.Date.{Date}
use Rattle.units.specs.declared.Volume.{Volume}
use Rattle.units.specs.declared.Rate.{Rate}
use Rattle.units.specs.declared.Delay.{Delay}
use Rattle.units.specs.declared.Interval.{Interval}
use Rattle.units.specs.declared.TxData.{TxData}
use Rattle.units.specs.declared.Bundle.{Bundle}
use Rattle.units.specs.Logic.{pick, all_of}
use Rattle.units.specs.Limits.{delay_max, window_ok, load_ok, bundle_ok}
use Rattle.units.specs.Answer.{offers}
use Rattle.units.specs.Strict.{strict_ok, forbids}
use Rattle.units.specs.Calls.{Calls}
use Rattle.units.specs.Twin.{Twins}
use Rattle.units.proofs.Logic.{pick-keeps, unless-keeps, unless-turned, pick-turned}
use Rattle.units.proofs.Determined.{Met}
use Rattle.units.proofs.Forbids.{only-forbidden}
use Rattle.units.proofs.Twin.{tables-twins}
use Rattle.legacy.specs.declared.Choices.{Choices}
use Rattle.legacy.specs.declared.Flags.{Flags}
use Rattle.legacy.specs.declared.Queue.{Queue}
use Rattle.legacy.specs.declared.Opened.{Opened}
use Rattle.legacy.specs.declared.Booked.{Booked}
use Rattle.legacy.specs.declared.Listing.{Listing}
use Rattle.legacy.specs.Choices.{choices_ok, flagging}
use Rattle.legacy.specs.Open.{at_least, rate_ok, budgets_ok, open_of}
use Rattle.legacy.specs.Record.{strict_of, record_ok}
use Rattle.legacy.specs.DryRun.{dry_run_of, answer_at}
use Rattle.legacy.specs.Queueing.{refused_queueing, reached, room_for, enqueue_at, dequeue_at, enqueue_of, dequeue_of}
use Rattle.legacy.specs.Book.{book_of}
use Rattle.legacy.specs.List.{list_of}
use Rattle.legacy.specs.Strict.{flagged, turned, turned_opening}
use Rattle.legacy.proofs.Queue.open.Reads as open-reads
use Rattle.legacy.proofs.Queue.dry_run.Reads as dry-run-reads
use Rattle.legacy.proofs.Queue.book.Reads as book-reads
use Rattle.legacy.proofs.Queue.list.Reads as list-reads
use Rattle.legacy.proofs.Queue.enqueue.Reads as enqueue-reads
use Rattle.legacy.proofs.Queue.dequeue.Reads as dequeue-reads

-- the promises of the manager's calls, as src/ has them
abbrev pub promised : Calls
promised =
    record {
      Manager = Queue;
      Booked = Booked;
      Listing = Listing;
      dry_run = λ r at b o. Met (dry-run-reads.Post tt (r, (at, (b, tt)))) o;
      book = λ r at b d a. Met (book-reads.Post tt (r, (at, (b, (d, tt))))) a;
      list = λ r o. Met (list-reads.Post tt (r, tt)) o;
      after = λ (a : Booked). a.manager;
    }

-- an opening: a refused one is the same, an accepted one's record differs in the flag alone
abbrev turned_if : Opened → Opened
turned_if o = pick (eqb o.number 0) (turned_opening 1 o) o

module _ (h : Choices) (w : Interval) (r : Rate) (d : Delay) (n : ℕ) (flags : Flags) (budgets : List Volume) where
  choices-twin : choices_ok (flagging 1 h) ≡ choices_ok (flagging 0 h)
  unfolding choices_ok strict_ok
  choices-twin = refl

  open-twin : open_of (flagging 1 h) w r d n flags budgets ≡ turned_if (open_of (flagging 0 h) w r d n flags budgets)
  unfolding open_of
  open-twin =
      rw choices-twin
      (unless-turned turned_if (choices_ok (flagging 0 h)) refl
      (unless-turned turned_if (window_ok w) refl
      (unless-turned turned_if (rate_ok w r.0) refl
      (unless-turned turned_if (leb d.0 delay_max) refl
      (unless-turned turned_if (budgets_ok n flags budgets) refl refl)))))

  pub open-alike : (x y : Opened)
      → Met (open-reads.Post tt (flagging 0 h, (w, (r, (d, (n, (flags, (budgets, tt)))))))) x → Met (open-reads.Post tt (flagging 1 h, (w, (r, (d, (n, (flags, (budgets, tt)))))))) y
      → y ≡ pick (eqb x.number 0) (turned_opening 1 x) x
  open-alike x y a b = rw (a.1, b.1) open-twin

module _ (r : Queue) where
  record-twin : record_ok (flagged 1 r) ≡ record_ok (flagged 0 r)
  unfolding record_ok
  record-twin =
      let same = open_of (flagging 0 r.choices) r.window r.rate r.delay r.classes r.flags r.budgets in
      let number : (turned_if same).number ≡ same.number = pick-keeps (λ (o : Opened). o.number ≡ same.number) (eqb same.number 0) _ _ (λ _. refl) (λ _. refl) in
      rw (open-twin r.choices r.window r.rate r.delay r.classes r.flags r.budgets, number)

  list-twin : list_of (flagged 1 r) ≡ list_of (flagged 0 r)
  unfolding list_of
  list-twin = rw record-twin

  module _ (b : Bundle) where
    answer-twin : (t : ℕ) → answer_at (flagged 1 r) t b ≡ answer_at (flagged 0 r) t b
    unfolding answer_at
    answer-twin t = refl

    put-twin : enqueue_at (flagged 1 r) b ≡ turned 1 (enqueue_at (flagged 0 r) b)
    unfolding enqueue_at
    put-twin = unless-turned (turned 1) (all_of (room_for b.size.0) (take (reached r b) r.queues)) refl refl

    pull-twin : dequeue_at (flagged 1 r) b ≡ turned 1 (dequeue_at (flagged 0 r) b)
    unfolding dequeue_at
    pull-twin = unless-turned (turned 1) (all_of (at_least b.size.0) (take (reached r b) r.queues)) refl refl

    enqueue-twin : enqueue_of (flagged 1 r) b ≡ turned 1 (enqueue_of (flagged 0 r) b)
    unfolding enqueue_of
    enqueue-twin =
        rw record-twin
        (unless-turned (turned 1) (record_ok (flagged 0 r)) refl
        (unless-turned (turned 1) (load_ok b) refl (pick-turned (turned 1) r.flags.self_update refl put-twin)))

    dequeue-twin : dequeue_of (flagged 1 r) b ≡ turned 1 (dequeue_of (flagged 0 r) b)
    unfolding dequeue_of
    dequeue-twin =
        rw record-twin
        (unless-turned (turned 1) (record_ok (flagged 0 r)) refl
        (unless-turned (turned 1) (load_ok b) refl (pick-turned (turned 1) r.flags.self_update refl pull-twin)))

    -- manual queueing
    pub enqueue-alike : (x y : Booked) → Met (enqueue-reads.Post tt (flagged 0 r, (b, tt))) x → Met (enqueue-reads.Post tt (flagged 1 r, (b, tt))) y → y ≡ turned 1 x
    enqueue-alike x y p q = q.1 ∙ enqueue-twin ∙ sym (ap (turned 1) p.1)

    pub dequeue-alike : (x y : Booked) → Met (dequeue-reads.Post tt (flagged 0 r, (b, tt))) x → Met (dequeue-reads.Post tt (flagged 1 r, (b, tt))) y → y ≡ turned 1 x
    dequeue-alike x y p q = q.1 ∙ dequeue-twin ∙ sym (ap (turned 1) p.1)

-- 02's sentence
pub strict-twins : Twins promised flagged turned refused_queueing
unfolding dry_run_of book_of
strict-twins =
    tables-twins promised flagged turned refused_queueing
    (record {
      kept = record_ok;
      strict = strict_of;
      answer = λ r at b. answer_at r at.0 b;
      booked = λ r at b. pick r.flags.self_update (enqueue_at r b) (record { number = 0; manager = r });
      listing = list_of;
      dry-run-is = λ r at b o p. p.1;
      book-is = λ r at b d a p. p.1;
      list-is = λ r o p. p.1;
      flag = λ n r. refl;
      kept-twin = record-twin;
      answer-twin = λ r at b. answer-twin r b at.0;
      booked-twin = λ r at b. pick-turned (turned 1) r.flags.self_update (put-twin r b) refl;
      listing-twin = list-twin;
      refuse-twin = λ n r. refl;
    })

-- 17 is answered of an offer of zero length, and by a strict record only
module _ (r : Queue) (at : Date) (b : Bundle) (d : TxData) where
  abbrev done : Booked
  done = pick r.flags.self_update (enqueue_at r b) (record { number = 0; manager = r })

  other-number : (enqueue_at r b).number ≡ 17 → ⊥
  unfolding enqueue_at
  other-number = unless-keeps (λ (a : Booked). a.number ≡ 17 → ⊥) (all_of (room_for b.size.0) (take (reached r b) r.queues)) _ _ (λ _ e. omega arith) (λ _ e. omega arith)

  own : done.number ≡ 17 → ⊥
  own = pick-keeps (λ (a : Booked). a.number ≡ 17 → ⊥) r.flags.self_update _ _ (λ _. other-number) (λ _ e. omega arith)

  pub book-17 : (book_of r at b d).number ≡ 17 → (offers (dry_run_of r at b) d ≡ true) × (forbids (strict_of r) d.send ≡ true)
  unfolding book_of
  book-17 e =
      let h = only-forbidden (λ (a : Booked). a.number) (λ n. refused_queueing n r) done (λ n. refl) own (record_ok r) (bundle_ok at b) _ _ e in
      (h.2, h.3)
