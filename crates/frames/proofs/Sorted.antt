-- 01's step is what the frame of its line asks: the trace program's table of frames and the step's own tests of length agree.
use Prim.Native.Nat.{ℕ}
use mathlib.Core.Bool.{Bool, true, false}
use mathlib.Core.Path.{◌≡◌, refl, ap, sym, ◌∙◌}
use mathlib.Core.List.{List}
use mathlib.Core.Logic.{⊎_elim}
use native.Mathlib.Omega.{arith}
use borrow.Author.Tests.{eq-eqb, ne_eqb}
use Rattle.units.specs.declared.Offer.{Offer as OfferRecord}
use Rattle.units.specs.Logic.{pick, unless}
use Rattle.units.proofs.Choice.{pick_yes, pick_no}
use Rattle.units.proofs.Numbers.{eq-or-ne}
use Rattle.legacy.specs.declared.Booked.{Booked}
use Rattle.hexadecimal.specs.Digits.{byte_at}
use Rattle.layout.specs.Fields.{date_at, dates_at, bundle_at, has_bytes}
use Rattle.layout.specs.Opening.{opening_length}
use Rattle.layout.specs.Polynomial.{polynomial_length}
use Rattle.layout.specs.Queue.{is_queue}
use Rattle.answer.specs.Lines.{offer_line}
use Rattle.std.specs.Prelude.{Option, None, Some}
use Rattle.held.specs.declared.Held.{Held}
use Rattle.held.specs.declared.Held.TheVariants.{Nothing, Free as FreeHeld, Priority as PriorityHeld, Polynomial as PolynomialHeld, Queue as QueueHeld}
use Rattle.held.specs.declared.Done.{Done}
use Rattle.legacy.specs.declared.Queue.{Queue as QueueRecord}
use Rattle.held.specs.State.{kept}
use Rattle.held.specs.Calls.{dry_run_held, book_held, queueing_held}
use Rattle.frames.specs.declared.frame.Frame.{Frame}
use Rattle.frames.specs.declared.frame.Frame.TheVariants.{Free, Priority, Polynomial, Queue, Offer, Booking, Listing, Queueing, Room}
use Rattle.frames.specs.Opening.{no_frame, opening_frame, free_done, priority_done, polynomial_done, queue_done}
use Rattle.frames.specs.Calls.{offer_frame, book_frame, enqueue_frame, dequeue_frame, list_held, list_frame, room_held, room_frame}
use Rattle.frames.specs.Step.{is_line, on, change_of, show_of, changes, told, step_of}
use Rattle.frames.specs.Granted.{when_of, kind_frame, frame_of, queueing_of}
use Rattle.frames.proofs.Table.{or_no, frame-none, show-none}

-- what each frame asks of what is held, on a line of its length: the answer's line, and what is held after it
unfoldable pub by_frame : Option Frame → List ℕ → Held → List ℕ × Held
by_frame None line h = told (no_frame h)
by_frame (Some Free) line h = let o : Done = free_done line in told (kept h o.number o.held)
by_frame (Some Priority) line h = let o : Done = priority_done line in told (kept h o.number o.held)
by_frame (Some Polynomial) line h = let o : Done = polynomial_done line in told (kept h o.number o.held)
by_frame (Some Queue) line h = let o : Done = queue_done line in told (kept h o.number o.held)
by_frame (Some Offer) line h = (offer_line (dry_run_held h (date_at line 1) (bundle_at line 9)), h)
by_frame (Some Booking) line h = told (book_held h (date_at line 1) (bundle_at line 9) (dates_at line 18))
by_frame (Some Listing) line h = (list_held h, h)
by_frame (Some Room) line h = (room_held h, h)
by_frame (Some Queueing) line h = told (queueing_held (queueing_of line) h)

-- calls that answer the same of every queue's record
same_call : (f g : QueueRecord → Booked) → ((r : QueueRecord) → f r ≡ g r) → (h : Held) → queueing_held f h ≡ queueing_held g h
unfolding queueing_held
same_call f g e Nothing = refl
same_call f g e (FreeHeld r) = refl
same_call f g e (PriorityHeld r) = refl
same_call f g e (PolynomialHeld r) = refl
same_call f g e (QueueHeld r) = ap (λ (b : Booked). kept (QueueHeld r) b.number (QueueHeld b.manager)) (e r)

module _ (line : List ℕ) (h : Held) where
  -- a test that both tables make goes the same way in both
  fits : {A : Type 0} (f : A → List ℕ × Held) (t : Bool) (frame : Frame) {a b : A} → f a ≡ told (no_frame h) → f b ≡ by_frame (Some frame) line h
      → f (unless t a b) ≡ by_frame (when_of t frame) line h
  unfolding by_frame
  fits f true frame p q = q
  fits f false frame p q = p

  -- what the step answers on a kind is what the kind's frame asks
  abbrev answered : ℕ → List ℕ × Held
  answered k = pick (changes k) (told (change_of k line h)) (show_of k line h, h)

  abbrev asked : ℕ → List ℕ × Held
  asked k = by_frame (kind_frame k line) line h

  abbrev Agree : ℕ → Type 0
  Agree k = answered k ≡ asked k

  at_1 : Agree 1
  unfolding changes change_of kind_frame on opening_frame by_frame
  at_1 = fits told (has_bytes line (opening_length line)) Free refl refl

  at-2 : Agree 2
  unfolding changes change_of kind_frame on opening_frame by_frame
  at-2 = fits told (has_bytes line (opening_length line)) Priority refl refl

  at-3 : Agree 3
  unfolding changes change_of kind_frame on opening_frame by_frame
  at-3 = fits told (has_bytes line (polynomial_length line)) Polynomial refl refl

  at-4 : Agree 4
  unfolding changes change_of kind_frame on opening_frame by_frame
  at-4 = fits told (is_queue line) Queue refl refl

  at-16 : Agree 16
  unfolding changes show_of kind_frame on offer_frame offer_line by_frame
  at-16 = fits (λ (o : OfferRecord). (offer_line o, h)) (has_bytes line 18) Offer refl refl

  at-17 : Agree 17
  unfolding changes change_of kind_frame on book_frame by_frame
  at-17 = fits told (has_bytes line 50) Booking refl refl

  at-18 : Agree 18
  unfolding changes show_of kind_frame on list_frame by_frame
  at-18 = fits (λ (text : List ℕ). (text, h)) (has_bytes line 1) Listing refl refl

  at-21 : Agree 21
  unfolding changes show_of kind_frame on room_frame by_frame
  at-21 = fits (λ (text : List ℕ). (text, h)) (has_bytes line 1) Room refl refl

  -- the queue manager's call of the kind that was read
  queueing : (call : QueueRecord → Booked) → ((r : QueueRecord) → call r ≡ queueing_of line r) → told (queueing_held call h) ≡ by_frame (Some Queueing) line h
  unfolding by_frame
  queueing call e = ap told (same_call call (queueing_of line) e h)

  at-19 : byte_at line 0 ≡ 19 → Agree 19
  unfolding changes change_of kind_frame on enqueue_frame queueing_of
  at-19 e = fits told (has_bytes line 10) Queueing refl (queueing _ (λ r. sym (pick_yes _ _ _ (eq-eqb _ _ e))))

  at-20 : byte_at line 0 ≡ 20 → Agree 20
  unfolding changes change_of kind_frame on dequeue_frame queueing_of
  at-20 e = fits told (has_bytes line 10) Queueing refl (queueing _ (λ r. sym (pick_no _ _ _ (ne_eqb (byte_at line 0) 19 (λ z. omega arith)))))

  at-33 : Agree 33
  unfolding changes change_of kind_frame on opening_frame by_frame
  at-33 = fits told (has_bytes line (opening_length line)) Free refl refl

  at-34 : Agree 34
  unfolding changes change_of kind_frame on opening_frame by_frame
  at-34 = fits told (has_bytes line (opening_length line)) Priority refl refl

  at-35 : Agree 35
  unfolding changes change_of kind_frame on opening_frame by_frame
  at-35 = fits told (has_bytes line (polynomial_length line)) Polynomial refl refl

  -- a kind that stands in neither table
  at_none : (byte_at line 0 ≡ 1 → ⊥) → (byte_at line 0 ≡ 2 → ⊥) → (byte_at line 0 ≡ 3 → ⊥) → (byte_at line 0 ≡ 4 → ⊥) → (byte_at line 0 ≡ 16 → ⊥)
      → (byte_at line 0 ≡ 17 → ⊥) → (byte_at line 0 ≡ 18 → ⊥) → (byte_at line 0 ≡ 19 → ⊥) → (byte_at line 0 ≡ 20 → ⊥) → (byte_at line 0 ≡ 21 → ⊥)
      → (byte_at line 0 ≡ 33 → ⊥) → (byte_at line 0 ≡ 34 → ⊥) → (byte_at line 0 ≡ 35 → ⊥) → Agree (byte_at line 0)
  unfolding changes by_frame
  at_none a b d e f g i j l m o p q =
      pick_no _ _ _ (or_no a (or_no b (or_no d (or_no e (or_no g (or_no j (or_no l (or_no o (or_no p (ne_eqb _ _ q))))))))))
      ∙ ap (λ (text : List ℕ). (text, h)) (sym (show-none line h refl f i m))
      ∙ ap (λ (frame : Option Frame). by_frame frame line h) (frame-none line refl a b d e f g i j l m o p q)

  -- the kind is this number, or another
  by : (n : ℕ) → (byte_at line 0 ≡ n → Agree n) → ((byte_at line 0 ≡ n → ⊥) → Agree (byte_at line 0)) → Agree (byte_at line 0)
  by n f g = ⊎_elim (λ e. ap answered e ∙ f e ∙ ap asked (sym e)) g (eq-or-ne (byte_at line 0) n)

  kind-sorted : Agree (byte_at line 0)
  kind-sorted =
      by 1 (λ q. at_1)
      (λ a. by 2 (λ q. at-2)
      (λ b. by 3 (λ q. at-3)
      (λ d. by 4 (λ q. at-4)
      (λ e. by 16 (λ q. at-16)
      (λ f. by 17 (λ q. at-17)
      (λ g. by 18 (λ q. at-18)
      (λ i. by 19 at-19
      (λ j. by 20 at-20
      (λ l. by 21 (λ q. at-21)
      (λ m. by 33 (λ q. at-33)
      (λ o. by 34 (λ q. at-34)
      (λ p. by 35 (λ q. at-35)
      (λ q. at_none a b d e f g i j l m o p q)))))))))))))

  by-digits : (t : Bool) → unless t (told (no_frame h)) (answered (byte_at line 0)) ≡ by_frame (unless t None (kind_frame (byte_at line 0) line)) line h
  unfolding by_frame
  by-digits true = kind-sorted
  by-digits false = refl

  pub sorted : step_of line h ≡ by_frame (frame_of line) line h
  unfolding step_of frame_of
  sorted = by-digits (is_line line)

  -- the step on a line whose frame is known
  pub sorted-as : {frame : Option Frame} → frame_of line ≡ frame → step_of line h ≡ by_frame frame line h
  sorted-as e = sorted ∙ ap (λ (frame : Option Frame). by_frame frame line h) e

-- 13 and 14 where a queue is held: what `queueing::call` answers is kept
pub sorted-queueing : (line : List ℕ) (r : QueueRecord) → frame_of line ≡ Some Queueing
    → let b : Booked = queueing_of line r in step_of line (QueueHeld r) ≡ told (kept (QueueHeld r) b.number (QueueHeld b.manager))
unfolding by_frame queueing_held
sorted-queueing line r e = sorted-as line (QueueHeld r) e
