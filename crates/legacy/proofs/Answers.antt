-- What holds of each refusal and of what is done where every test passes holds of the answer: the opening, a booking, enqueue and dequeue.
use Prim.Native.Nat.{ℕ, ◌<◌}
use mathlib.Core.Bool.{true, false}
use mathlib.Core.Path.{◌≡◌}
use mathlib.Core.List.{List}
use native.Mathlib.Omega.{arith}
use lib.Dec.{leb, lit<}
use lib.ListN.{take}
use Rattle.units.specs.declared.Date.{Date}
use Rattle.units.specs.declared.Volume.{Volume}
use Rattle.units.specs.declared.Rate.{Rate}
use Rattle.units.specs.declared.Delay.{Delay}
use Rattle.units.specs.declared.Interval.{Interval}
use Rattle.units.specs.declared.TxData.{TxData}
use Rattle.units.specs.declared.Bundle.{Bundle}
use Rattle.units.specs.Logic.{all_of}
use Rattle.units.specs.Limits.{window_ok, load_ok, bundle_ok, delay_max}
use Rattle.units.specs.Answer.{offers}
use Rattle.units.specs.Strict.{forbids}
use Rattle.units.proofs.Logic.{pick-keeps, unless-keeps}
use Rattle.units.proofs.Booking.{booking-keeps}
use Rattle.legacy.specs.declared.Choices.{Choices}
use Rattle.legacy.specs.declared.Flags.{Flags}
use Rattle.legacy.specs.declared.Queue.{Queue}
use Rattle.legacy.specs.declared.Opened.{Opened}
use Rattle.legacy.specs.declared.Booked.{Booked}
use Rattle.legacy.specs.Choices.{choices_ok}
use Rattle.legacy.specs.Open.{at_least, zeros, rate_ok, budgets_ok, refused_opening, open_of}
use Rattle.legacy.specs.Record.{strict_of, record_ok}
use Rattle.legacy.specs.DryRun.{dry_run_of}
use Rattle.legacy.specs.Queueing.{add_to, take_from, refused_queueing, with_queues, reached, room_for, enqueue_at, dequeue_at, manually, enqueue_of, dequeue_of}
use Rattle.legacy.specs.Book.{book_of}

-- the record of an opening that is done
abbrev pub fresh_of : Choices → Interval → Rate → Delay → ℕ → Flags → List Volume → Queue
fresh_of h w r d n flags budgets =
    record { choices = h; window = w; rate = r; delay = d; classes = n; flags = flags; queues = zeros; budgets = budgets }

pub opening-keeps : (h : Choices) (w : Interval) (r : Rate) (d : Delay) (n : ℕ) (flags : Flags) (budgets : List Volume) (P : Opened → Type 0)
    → P (refused_opening 2)
    → P (refused_opening 3)
    → P (refused_opening 6)
    → P (refused_opening 5)
    → P (refused_opening 14)
    → P (record { number = 0; manager = fresh_of h w r d n flags budgets })
    → P (open_of h w r d n flags budgets)
unfolding open_of
opening-keeps h w r d n flags budgets P p2 p3 p6 p5 p14 p0 =
    unless-keeps P (choices_ok h) _ _ (λ _. p2)
    (λ _. unless-keeps P (window_ok w) _ _ (λ _. p3)
    (λ _. unless-keeps P (rate_ok w r.0) _ _ (λ _. p6)
    (λ _. unless-keeps P (leb d.0 delay_max) _ _ (λ _. p5)
    (λ _. unless-keeps P (budgets_ok n flags budgets) _ _ (λ _. p14) (λ _. p0)))))

-- the tests before a bundle is queued or taken by hand
pub record Manual (r : Queue) (b : Bundle) : Type 0 where
  pub kept : record_ok r ≡ true
  pub fair : load_ok b ≡ true
  pub manual : r.flags.self_update ≡ false

-- and before a booking is done
pub record Offered (r : Queue) (at : Date) (b : Bundle) (d : TxData) : Type 0 where
  pub kept : record_ok r ≡ true
  pub fair : bundle_ok at b ≡ true
  pub same : offers (dry_run_of r at b) d ≡ true

module _ (r : Queue) (b : Bundle) (P : Booked → Type 0) (refused : (n : ℕ) → 0 < n → P (refused_queueing n r)) where
  pub put_keeps : (all_of (room_for b.size.0) (take (reached r b) r.queues) ≡ true → P (record { number = 0; manager = with_queues r (add_to (reached r b) b.size.0 r.queues) }))
      → P (enqueue_at r b)
  unfolding enqueue_at
  put_keeps p = unless-keeps P (all_of (room_for b.size.0) (take (reached r b) r.queues)) _ _ (λ _. refused 13 (lit< tt)) p

  pub pull-keeps : (all_of (at_least b.size.0) (take (reached r b) r.queues) ≡ true → P (record { number = 0; manager = with_queues r (take_from (reached r b) b.size.0 r.queues) }))
      → P (dequeue_at r b)
  unfolding dequeue_at
  pull-keeps p = unless-keeps P (all_of (at_least b.size.0) (take (reached r b) r.queues)) _ _ (λ _. refused 13 (lit< tt)) p

  manual-keeps : (done : Booked) → (Manual r b → P done) → P (manually r b done)
  manual-keeps done p =
      unless-keeps P (record_ok r) _ _ (λ _. refused 1 (lit< tt))
      (λ k. unless-keeps P (load_ok b) _ _ (λ _. refused 2 (lit< tt))
      (λ f. pick-keeps P r.flags.self_update _ _ (λ _. refused 12 (lit< tt)) (λ m. p (record { kept = k; fair = f; manual = m }))))

  pub enqueue-keeps : (Manual r b → P (enqueue_at r b)) → P (enqueue_of r b)
  unfolding enqueue_of
  enqueue-keeps p = manual-keeps (enqueue_at r b) p

  pub dequeue-keeps : (Manual r b → P (dequeue_at r b)) → P (dequeue_of r b)
  unfolding dequeue_of
  dequeue-keeps p = manual-keeps (dequeue_at r b) p

-- a booking's own refusals are 1, 2, 9 and 17, none of them 13
pub book-keeps : (r : Queue) (b : Bundle) (P : Booked → Type 0) (at : Date) (d : TxData)
    → ((n : ℕ) → 0 < n → (n ≡ 13 → ⊥) → P (refused_queueing n r))
    → (Offered r at b d → r.flags.self_update ≡ true → P (enqueue_at r b))
    → P (record { number = 0; manager = r })
    → P (book_of r at b d)
unfolding book_of
book-keeps r b P at d refused p q =
    let refuse : (n : ℕ) → Booked = λ n. refused_queueing n r in
    booking-keeps P (record_ok r) (bundle_ok at b) refuse (refused 1 (lit< tt) (λ e. omega arith)) (refused 2 (lit< tt) (λ e. omega arith)) (offers (dry_run_of r at b) d) (forbids (strict_of r) d.send) _
    (refused 9 (lit< tt) (λ e. omega arith)) (refused 17 (lit< tt) (λ e. omega arith))
    (λ k f s _. pick-keeps P r.flags.self_update _ _ (p (record { kept = k; fair = f; same = s })) (λ _. q))
