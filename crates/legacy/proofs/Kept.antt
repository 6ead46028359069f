-- Records that are handed back keep their rules; a refusal hands back the record as it came, an opening's a zero one.
use Prim.Native.Nat.{ℕ, ◌-◌, ◌≤◌}
use mathlib.Core.Bool.{true}
use mathlib.Core.Path.{◌≡◌, refl, ap, ◌∙◌}
use mathlib.Core.List.{List}
use native.Mathlib.Omega.{arith}
use lib.ListN.{take, drop}
use borrow.Author.Tests.{leb-true, le-leb, eq-eqb}
use Rattle.units.specs.declared.Date.{Date}
use Rattle.units.specs.declared.Volume.{Volume}
use Rattle.units.specs.declared.Rate.{Rate}
use Rattle.units.specs.declared.Delay.{Delay}
use Rattle.units.specs.declared.Interval.{Interval}
use Rattle.units.specs.declared.TxData.{TxData}
use Rattle.units.specs.declared.Bundle.{Bundle}
use Rattle.units.specs.Logic.{all_of}
use Rattle.units.proofs.Logic.{both-fst, both-snd, both_yes}
use Rattle.units.proofs.Arrays.{all_replicate}
use Rattle.units.proofs.Each.{all_take, all_drop}
use Rattle.legacy.specs.declared.Choices.{Choices}
use Rattle.legacy.specs.declared.Flags.{Flags}
use Rattle.legacy.specs.declared.Queue.{Queue}
use Rattle.legacy.specs.declared.Opened.{Opened}
use Rattle.legacy.specs.declared.Booked.{Booked}
use Rattle.legacy.specs.Open.{classes_max, at_most, at_least, is_zero, zeros, refused_opening, open_of}
use Rattle.legacy.specs.Record.{queue_max, record_ok}
use Rattle.legacy.specs.Queueing.{with_queues, reached, room_for, enqueue_at, dequeue_at, enqueue_of, dequeue_of}
use Rattle.legacy.specs.Book.{book_of}
use Rattle.legacy.proofs.Answers.{fresh_of, opening-keeps, put_keeps, pull-keeps, enqueue-keeps, dequeue-keeps, book-keeps}
use Rattle.legacy.proofs.First.{more, less, add_is, take-is, first-all, first-drop}
use Rattle.legacy.proofs.Facts.{sound}

module _ (h : Choices) (w : Interval) (r : Rate) (d : Delay) (n : ℕ) (flags : Flags) (budgets : List Volume) where
  pub opened-is : (open_of h w r d n flags budgets).number ≡ 0 → (open_of h w r d n flags budgets).manager ≡ fresh_of h w r d n flags budgets
  opened-is =
      opening-keeps h w r d n flags budgets (λ (o : Opened). o.number ≡ 0 → o.manager ≡ fresh_of h w r d n flags budgets)
      (λ e. absurd (omega arith)) (λ e. absurd (omega arith)) (λ e. absurd (omega arith)) (λ e. absurd (omega arith)) (λ e. absurd (omega arith)) (λ _. refl)

  fresh_ok : (open_of h w r d n flags budgets).number ≡ 0 → record_ok (fresh_of h w r d n flags budgets) ≡ true
  unfolding record_ok
  fresh_ok e =
      both_yes _ _ (eq-eqb _ _ e)
      (both_yes _ _ (all_take (at_most queue_max) n zeros (all_replicate (at_most queue_max) classes_max _ refl)) (all_drop is_zero n zeros (all_replicate is_zero classes_max _ refl)))

  pub opened-ok : (open_of h w r d n flags budgets).number ≡ 0 → record_ok (open_of h w r d n flags budgets).manager ≡ true
  opened-ok e = ap record_ok (opened-is e) ∙ fresh_ok e

  pub opened-refused : ((open_of h w r d n flags budgets).number ≡ 0 → ⊥) → open_of h w r d n flags budgets ≡ refused_opening (open_of h w r d n flags budgets).number
  opened-refused =
      opening-keeps h w r d n flags budgets (λ (o : Opened). (o.number ≡ 0 → ⊥) → o ≡ refused_opening o.number)
      (λ _. refl) (λ _. refl) (λ _. refl) (λ _. refl) (λ _. refl) (λ f. absurd (f refl))

module _ (r : Queue) (b : Bundle) where
  module _ (e : record_ok r ≡ true) where
    abbrev Ok : Booked → Type 0
    Ok o = record_ok o.manager ≡ true

    -- other queues inside their limits, the same past the class count
    queues-ok : (l : List Volume) → all_of (at_most queue_max) (take r.classes l) ≡ true → drop r.classes l ≡ drop r.classes r.queues
        → record_ok (with_queues r l) ≡ true
    unfolding record_ok
    queues-ok l h k =
        both_yes _ _ (both-fst _ _ e) (both_yes _ _ h (ap (all_of is_zero) k ∙ both-snd _ _ (both-snd _ _ e)))

    within : all_of (at_most queue_max) (take r.classes r.queues) ≡ true
    unfolding record_ok
    within = both-fst _ _ (both-snd _ _ e)

    pub reached-low : reached r b ≤ r.classes
    reached-low = let s = sound r e in omega arith

    put-ok : Ok (enqueue_at r b)
    put-ok =
        let v = b.size.0 in
        put_keeps r b Ok (λ _ _. e)
        (λ h. rw (add_is (reached r b) v r.queues)
        (queues-ok _
        (first-all (more v) (room_for v) (at_most queue_max) (λ q room _. room) (reached r b) r.queues r.classes reached-low h within)
        (first-drop (more v) (reached r b) r.queues r.classes reached-low)))

    -- less is inside the limits
    lower : (v : ℕ) (q : Volume) → at_most queue_max q ≡ true → at_most queue_max (less v q) ≡ true
    lower v q h = let k = leb-true q.0 queue_max h in le-leb (q.0 - v) queue_max (omega arith)

    pull-ok : Ok (dequeue_at r b)
    pull-ok =
        let v = b.size.0 in
        pull-keeps r b Ok (λ _ _. e)
        (λ h. rw (take-is (reached r b) v r.queues)
        (queues-ok _
        (first-all (less v) (at_least v) (at_most queue_max) (λ q _ k. lower v q k) (reached r b) r.queues r.classes reached-low h within)
        (first-drop (less v) (reached r b) r.queues r.classes reached-low)))

    pub enqueue-ok : record_ok (enqueue_of r b).manager ≡ true
    enqueue-ok = enqueue-keeps r b Ok (λ _ _. e) (λ _. put-ok)

    pub dequeue-ok : record_ok (dequeue_of r b).manager ≡ true
    dequeue-ok = dequeue-keeps r b Ok (λ _ _. e) (λ _. pull-ok)

    pub book-ok : (at : Date) (d : TxData) → record_ok (book_of r at b d).manager ≡ true
    book-ok at d = book-keeps r b Ok at d (λ _ _ _. e) (λ _ _. put-ok) e

  abbrev Same : Booked → Type 0
  Same o = (o.number ≡ 0 → ⊥) → o.manager ≡ r

  put_refused : Same (enqueue_at r b)
  put_refused = put_keeps r b Same (λ _ _ _. refl) (λ _ f. absurd (f refl))

  pull-refused : Same (dequeue_at r b)
  pull-refused = pull-keeps r b Same (λ _ _ _. refl) (λ _ f. absurd (f refl))

  pub enqueue-refused : ((enqueue_of r b).number ≡ 0 → ⊥) → (enqueue_of r b).manager ≡ r
  enqueue-refused = enqueue-keeps r b Same (λ _ _ _. refl) (λ _. put_refused)

  pub dequeue-refused : ((dequeue_of r b).number ≡ 0 → ⊥) → (dequeue_of r b).manager ≡ r
  dequeue-refused = dequeue-keeps r b Same (λ _ _ _. refl) (λ _. pull-refused)

  pub book-refused : (at : Date) (d : TxData) → ((book_of r at b d).number ≡ 0 → ⊥) → (book_of r at b d).manager ≡ r
  book-refused at d = book-keeps r b Same at d (λ _ _ _ _. refl) (λ _ _. put_refused) (λ f. absurd (f refl))
