-- Each public call's promise determines its answer, and the record or the parts of it that it leaves behind the references: two that meet it are equal. What the contract of a call to which a record is lent says in src/ is that promise, by computation; for the others `Post` is its reading.
use Prim.Native.Nat.{ℕ}
use mathlib.Core.Path.{◌≡◌, refl, sym, ap, ◌∙◌}
use mathlib.Core.Bool.{Bool}
use mathlib.Core.List.{List}
use seplogic.Ra.Ura.{Ura}
use base.Logic.{SProp}
use borrow.Fn.Kinds.{Dens, ended_of}
use prog.Memory.{Memory}
use prog.Routine.{Routine}
use types.Logic.{Logic}
use contract.Lifetimes.{Lfts}
use contract.Monad.{Fun, fact}
use denote.Ref.{Bor, MutBor}
use denote.Triple.Clauses.{AtExit}
use Rattle.units.proofs.Determined.{Determined}
use Rattle.segmentation.specs.declared.VolumeSegment.{VolumeSegment}
use Rattle.bookings.specs.declared.BookingSegment.{BookingSegment}
use Rattle.free_list.specs.Cut.{listed}
use Rattle.free_list.specs.Room.{room_of}
use Rattle.seg.specs.declared.FreeVolume.{FreeVolume}
use Rattle.seg.specs.Open.{open_of as free_open_of}
use Rattle.seg.specs.Room.{room_in, room_answer}
use Rattle.seg.specs.Record.{record_ok as free_ok}
use Rattle.seg.specs.List.{list_of as free_list_of}
use Rattle.seg.specs.DryRun.{dry_run_of as free_dry_run_of}
use Rattle.seg.specs.Book.{book_of as free_book_of}
use Rattle.pseg.specs.declared.PrioritySeg.{PrioritySeg}
use Rattle.pseg.specs.Open.{open_of as priority_open_of}
use Rattle.pseg.specs.Record.{record_ok as priority_ok}
use Rattle.pseg.specs.List.{list_of as priority_list_of}
use Rattle.pseg.specs.DryRun.{dry_run_of as priority_dry_run_of}
use Rattle.pseg.specs.Book.{book_of as priority_book_of}
use Rattle.poly_seg.specs.declared.PolySeg.{PolySeg}
use Rattle.poly_seg.specs.Open.{open_of as polynomial_open_of}
use Rattle.poly_seg.specs.Record.{record_ok as polynomial_ok}
use Rattle.poly_seg.specs.List.{list_of as polynomial_list_of}
use Rattle.poly_seg.specs.DryRun.{dry_run_of as polynomial_dry_run_of}
use Rattle.poly_seg.specs.Book.{book_of as polynomial_book_of}
use Rattle.legacy.specs.Open.{open_of as queue_open_of}
use Rattle.legacy.specs.Record.{record_ok as queue_ok}
use Rattle.legacy.specs.List.{list_of as queue_list_of}
use Rattle.legacy.specs.DryRun.{dry_run_of as queue_dry_run_of}
use Rattle.legacy.specs.Book.{book_of as queue_book_of}
use Rattle.legacy.specs.Queueing.{enqueue_of, dequeue_of}
use Rattle.howrekano.specs.Words.{free_volume_in, priority_seg_in, polynome_in, poly_seg_in}
use Rattle.howrekano.proofs.free.opened.Reads as free-opened-reads
use Rattle.howrekano.specs.contracts.free.hk_free_open as free_open
use Rattle.howrekano.specs.contracts.free.hk_free_ok as free-ok
use Rattle.howrekano.specs.contracts.free.hk_free_list as free-list
use Rattle.howrekano.specs.contracts.free.hk_free_room as free-room
use Rattle.howrekano.specs.contracts.free.hk_free_room_kept as free-room-kept
use Rattle.howrekano.specs.contracts.free.hk_free_dry_run as free-dry-run
use Rattle.howrekano.proofs.free.hk_free_dry_run_kept.Kinds as free-dry-run-kept-kinds
use Rattle.howrekano.proofs.free.hk_free_dry_run_kept.Reads as free-dry-run-kept-reads
use Rattle.howrekano.specs.contracts.free.hk_free_book as free-book
use Rattle.howrekano.proofs.free.hk_free_book_kept.Kinds as free-book-kept-kinds
use Rattle.howrekano.proofs.free.hk_free_book_kept.Reads as free-book-kept-reads
use Rattle.howrekano.proofs.priority.opened.Reads as priority-opened-reads
use Rattle.howrekano.specs.contracts.priority.hk_priority_open as priority-open
use Rattle.howrekano.specs.contracts.priority.hk_priority_ok as priority-ok
use Rattle.howrekano.specs.contracts.priority.hk_priority_list as priority-list
use Rattle.howrekano.specs.contracts.priority.hk_priority_dry_run as priority-dry-run
use Rattle.howrekano.proofs.priority.hk_priority_dry_run_kept.Kinds as priority-dry-run-kept-kinds
use Rattle.howrekano.proofs.priority.hk_priority_dry_run_kept.Reads as priority-dry-run-kept-reads
use Rattle.howrekano.specs.contracts.priority.hk_priority_book as priority-book
use Rattle.howrekano.proofs.priority.hk_priority_book_kept.Kinds as priority-book-kept-kinds
use Rattle.howrekano.proofs.priority.hk_priority_book_kept.Reads as priority-book-kept-reads
use Rattle.howrekano.proofs.polynomial.opened.Reads as polynomial-opened-reads
use Rattle.howrekano.specs.contracts.polynomial.hk_polynomial_open as polynomial-open
use Rattle.howrekano.specs.contracts.polynomial.hk_polynomial_ok as polynomial-ok
use Rattle.howrekano.specs.contracts.polynomial.hk_polynomial_list as polynomial-list
use Rattle.howrekano.specs.contracts.polynomial.hk_polynomial_dry_run as polynomial-dry-run
use Rattle.howrekano.proofs.polynomial.hk_polynomial_dry_run_kept.Kinds as polynomial-dry-run-kept-kinds
use Rattle.howrekano.proofs.polynomial.hk_polynomial_dry_run_kept.Reads as polynomial-dry-run-kept-reads
use Rattle.howrekano.specs.contracts.polynomial.hk_polynomial_book as polynomial-book
use Rattle.howrekano.proofs.polynomial.hk_polynomial_book_kept.Kinds as polynomial-book-kept-kinds
use Rattle.howrekano.proofs.polynomial.hk_polynomial_book_kept.Reads as polynomial-book-kept-reads
use Rattle.howrekano.proofs.queue.opened.Reads as queue-opened-reads
use Rattle.howrekano.specs.contracts.queue.hk_queue_open as queue-open
use Rattle.howrekano.specs.contracts.queue.hk_queue_ok as queue-ok
use Rattle.howrekano.specs.contracts.queue.hk_queue_list as queue-list
use Rattle.howrekano.specs.contracts.queue.hk_queue_dry_run as queue-dry-run
use Rattle.howrekano.specs.contracts.queue.hk_queue_dry_run_kept as queue-dry-run-kept
use Rattle.howrekano.specs.contracts.queue.hk_queue_book as queue-book
use Rattle.howrekano.specs.contracts.queue.hk_queue_book_kept as queue-book-kept
use Rattle.howrekano.specs.contracts.queue.hk_queue_enqueue as queue-enqueue
use Rattle.howrekano.specs.contracts.queue.hk_queue_enqueue_kept as queue-enqueue-kept
use Rattle.howrekano.specs.contracts.queue.hk_queue_dequeue as queue-dequeue
use Rattle.howrekano.specs.contracts.queue.hk_queue_dequeue_kept as queue-dequeue-kept
use Rattle.howrekano.specs.declared.Opening.{Opening}
use Rattle.howrekano.specs.declared.queue.QueueOpening.{QueueOpening}
use Rattle.howrekano.specs.declared.polynomial.PolynomialOpening.{PolynomialOpening}
use Rattle.units.specs.declared.Date.{Date}
use Rattle.units.specs.declared.Volume.{Volume}
use Rattle.units.specs.declared.Bundle.{Bundle}
use Rattle.units.specs.declared.TxData.{TxData}
use Rattle.units.specs.declared.Offer.{Offer}
use Rattle.seg.specs.declared.Opened.{Opened as FreeOpened}
use Rattle.seg.specs.declared.Listing.{Listing as FreeListing}
use Rattle.seg.specs.declared.RoomLeft.{RoomLeft}
use Rattle.pseg.specs.declared.Opened.{Opened as PriorityOpened}
use Rattle.pseg.specs.declared.Listing.{Listing as PriorityListing}
use Rattle.poly_seg.specs.declared.Opened.{Opened as PolynomialOpened}
use Rattle.poly_seg.specs.declared.Listing.{Listing as PolynomialListing}
use Rattle.legacy.specs.declared.Queue.{Queue}
use Rattle.legacy.specs.declared.Opened.{Opened as QueueOpened}
use Rattle.legacy.specs.declared.Listing.{Listing as QueueListing}

-- by value
pub free-opened-unique : (x : Opening) → Determined (free-opened-reads.Post tt (x, tt))
free-opened-unique x r q y z f g = f ∙ sym g

pub priority-opened-unique : (x : Opening) → Determined (priority-opened-reads.Post tt (x, tt))
priority-opened-unique x r q y z f g = f ∙ sym g

pub polynomial-opened-unique : (x : PolynomialOpening) → Determined (polynomial-opened-reads.Post tt (x, tt))
polynomial-opened-unique x r q y z f g = f ∙ sym g

pub queue-opened-unique : (x : QueueOpening) → Determined (queue-opened-reads.Post tt (x, tt))
queue-opened-unique x r q y z f g = f ∙ sym g

-- a record's parts lent
module _ (κs : Lfts 4) where
  pub free-dry-run-kept-unique : (a : Dens κs free-dry-run-kept-kinds.ps) → Determined (free-dry-run-kept-reads.Post κs a)
  free-dry-run-kept-unique a r q x y f g = f ∙ sym g

  pub priority-dry-run-kept-unique : (a : Dens κs priority-dry-run-kept-kinds.ps) → Determined (priority-dry-run-kept-reads.Post κs a)
  priority-dry-run-kept-unique a r q x y f g = f ∙ sym g

  pub polynomial-dry-run-kept-unique : (a : Dens κs polynomial-dry-run-kept-kinds.ps) → Determined (polynomial-dry-run-kept-reads.Post κs a)
  polynomial-dry-run-kept-unique a r q x y f g = f ∙ sym g

-- a lent list that is changed, by a promise P: the record that the parts make at exit, the segments behind the reference, and their count
module _ {D X S : Type 0} (left : X → D) (behind : X → List S) (count : X → ℕ) (P : X → Type 0) where
  abbrev AllLeft : Type 0
  AllLeft = Determined (λ (m : D) (x : X). (m ≡ left x) × P x) × Determined (λ (l : List S) (x : X). (l ≡ behind x) × P x) × Determined (λ (n : ℕ) (x : X). (n ≡ count x) × P x)

  -- they are the record's list
  module _ (segments : D → List S) (many : D → ℕ) (lists : (x : X) → behind x ≡ segments (left x)) (counts : (x : X) → count x ≡ many (left x))
      (booked : D) (tells : (x : X) → P x → left x ≡ booked) where
    same_left : (x y : X) → P x → P y → left x ≡ left y
    same_left x y f g = tells x f ∙ sym (tells y g)

    all_left : AllLeft
    all_left = (
      λ r q x y f g. f.0 ∙ same_left x y f.1 g.1 ∙ sym g.0,
      λ r q x y f g. f.0 ∙ lists x ∙ ap segments (same_left x y f.1 g.1) ∙ sym (g.0 ∙ lists y),
      λ r q x y f g. f.0 ∙ counts x ∙ ap many (same_left x y f.1 g.1) ∙ sym (g.0 ∙ counts y),
    )

-- with its answer k, what a booking leaves
module _ (κs : Lfts 7) (a : Dens κs free-book-kept-kinds.ps) where
  abbrev FreeExit : Type 0
  FreeExit = AtExit (ended_of 7 free-book-kept-kinds.ps free-book-kept-kinds.r) κs

  abbrev free-segments : FreeExit → List VolumeSegment
  free-segments s = s.1.1.1.1.1.0.now

  abbrev free-count : FreeExit → ℕ
  free-count s = s.1.1.1.1.1.1.0.now

  abbrev free-left : FreeExit → FreeVolume
  free-left s = free_volume_in a.1.1.1.1.1.1.1.1.1.1.1.0.now a.0 a.1.0.now a.1.1.0 a.1.1.1.0.now a.1.1.1.1.0 (free-segments s) (free-count s)

  pub free-book-kept-unique : Determined (free-book-kept-reads.Post κs a)
  free-book-kept-unique r q x y f g = f.0 ∙ sym g.0

  pub free-book-kept-left-unique : (k : ℕ) → AllLeft free-left free-segments free-count (free-book-kept-reads.Post κs a k)
  free-book-kept-left-unique k = all_left free-left free-segments free-count _ (λ m. m.free.segments) (λ m. m.free.count) (λ x. refl) (λ x. refl) _ (λ x p. p.1.0)

  -- and the room that it leaves
  pub free-book-kept-room-unique : (k : ℕ) → Determined (λ (n : ℕ) (x : FreeExit). (n ≡ x.1.1.1.1.1.1.1.0.now) × free-book-kept-reads.Post κs a k x)
  free-book-kept-room-unique k r q x y f g =
      f.0 ∙ f.1.1.1 ∙ ap (λ (m : FreeVolume). room_of (listed m.free)) (f.1.1.0 ∙ sym g.1.1.0) ∙ sym (g.0 ∙ g.1.1.1)

module _ (κs : Lfts 6) (a : Dens κs priority-book-kept-kinds.ps) where
  abbrev PriorityExit : Type 0
  PriorityExit = AtExit (ended_of 6 priority-book-kept-kinds.ps priority-book-kept-kinds.r) κs

  abbrev priority-segments : PriorityExit → List BookingSegment
  priority-segments s = s.1.1.1.1.1.0.now

  abbrev priority-count : PriorityExit → ℕ
  priority-count s = s.1.1.1.1.1.1.0.now

  abbrev priority-left : PriorityExit → PrioritySeg
  priority-left s = priority_seg_in a.1.1.1.1.1.1.1.1.1.1.0.now a.0 a.1.0.now a.1.1.0 a.1.1.1.0.now a.1.1.1.1.0 (priority-segments s) (priority-count s)

  pub priority-book-kept-unique : Determined (priority-book-kept-reads.Post κs a)
  priority-book-kept-unique r q x y f g = f.0 ∙ sym g.0

  pub priority-book-kept-left-unique : (k : ℕ) → AllLeft priority-left priority-segments priority-count (priority-book-kept-reads.Post κs a k)
  priority-book-kept-left-unique k = all_left priority-left priority-segments priority-count _ (λ m. m.bookings.segments) (λ m. m.bookings.count) (λ x. refl) (λ x. refl) _ (λ x p. p.1)

module _ (κs : Lfts 6) (a : Dens κs polynomial-book-kept-kinds.ps) where
  abbrev PolynomialExit : Type 0
  PolynomialExit = AtExit (ended_of 6 polynomial-book-kept-kinds.ps polynomial-book-kept-kinds.r) κs

  abbrev polynomial-segments : PolynomialExit → List VolumeSegment
  polynomial-segments s = s.1.1.1.1.1.0.now

  abbrev polynomial-count : PolynomialExit → ℕ
  polynomial-count s = s.1.1.1.1.1.1.0.now

  abbrev polynomial-left : PolynomialExit → PolySeg
  polynomial-left s = poly_seg_in a.1.1.1.1.1.1.1.1.1.1.0.now a.0 (polynome_in a.1.0.now a.1.1.0) a.1.1.1.0.now a.1.1.1.1.0 (polynomial-segments s) (polynomial-count s)

  pub polynomial-book-kept-unique : Determined (polynomial-book-kept-reads.Post κs a)
  polynomial-book-kept-unique r q x y f g = f.0 ∙ sym g.0

  pub polynomial-book-kept-left-unique : (k : ℕ) → AllLeft polynomial-left polynomial-segments polynomial-count (polynomial-book-kept-reads.Post κs a k)
  polynomial-book-kept-left-unique k = all_left polynomial-left polynomial-segments polynomial-count _ (λ m. m.free.segments) (λ m. m.free.count) (λ x. refl) (λ x. refl) _ (λ x p. p.1)

-- a lent record that is asked: the answer
abbrev pub Answered : {X : Type 0} → X → X → Type 0
Answered a r = r ≡ a

pub answered-unique : {X : Type 0} (a r q : X) → Answered a r → Answered a q → r ≡ q
answered-unique a r q k l = k ∙ sym l

-- a lent record that is changed: the number, and what stands behind the reference at exit
abbrev pub Stored : {D : Type 0} → ℕ → D → ℕ → D → Type 0
Stored n m r t = (r ≡ n) × (t ≡ m)

pub stored-unique : {D : Type 0} (n : ℕ) (m : D) (r q : ℕ) (s t : D) → Stored n m r s → Stored n m q t → (r ≡ q) × (s ≡ t)
stored-unique n m r q s t k l = (k.0 ∙ sym l.0, k.1 ∙ sym l.1)

-- they are what the contracts in src/ say
module _ {M : Type 1} {𝓤 : Ura M} (𝓛 : Logic 𝓤) (mem : Memory → SProp 𝓤) (run : Routine → Fun 𝓤) (at : Date) (b : Bundle) where
  module _ (m : Bor FreeVolume) (w : MutBor FreeVolume) where
    module _ (κs : Lfts 1) where
      pub free-open-says : (x : Bor Opening) (r : FreeOpened) (e : AtExit free_open.ended κs) → (free_open.clauses 𝓛 mem run κs (x, tt)).ensures tt r e ≡ fact 𝓤 (Answered (free_open_of x.now.choices x.now.window x.now.rates x.now.rate_count x.now.delays x.now.delay_count) r)
      free-open-says x r e = refl

      pub free-ok-says : (r : Bool) (e : AtExit free-ok.ended κs) → (free-ok.clauses 𝓛 mem run κs (m, tt)).ensures tt r e ≡ fact 𝓤 (Answered (free_ok m.now) r)
      free-ok-says r e = refl

      pub free-list-says : (r : FreeListing) (e : AtExit free-list.ended κs) → (free-list.clauses 𝓛 mem run κs (m, tt)).ensures tt r e ≡ fact 𝓤 (Answered (free_list_of m.now) r)
      free-list-says r e = refl

      pub free-room-says : (r : RoomLeft) (e : AtExit free-room.ended κs) → (free-room.clauses 𝓛 mem run κs (m, tt)).ensures tt r e ≡ fact 𝓤 (Answered (room_answer m.now) r)
      free-room-says r e = refl

      pub free-room-kept-says : (r : Volume) (e : AtExit free-room-kept.ended κs) → (free-room-kept.clauses 𝓛 mem run κs (m, tt)).ensures tt r e ≡ fact 𝓤 (Answered (room_in m.now) r)
      free-room-kept-says r e = refl

      pub free-dry-run-says : (r : Offer) (e : AtExit free-dry-run.ended κs) → (free-dry-run.clauses 𝓛 mem run κs (m, (at, (b, tt)))).ensures tt r e ≡ fact 𝓤 (Answered (free_dry_run_of m.now at b) r)
      free-dry-run-says r e = refl

    module _ (κs : Lfts 2) (d : Bor TxData) where
      pub free-book-says : (r : ℕ) (e : AtExit free-book.ended κs) → (free-book.clauses 𝓛 mem run κs (w, (at, (b, (d, tt))))).ensures tt r e ≡ fact 𝓤 (Stored (free_book_of w.now at b d.now).number (free_book_of w.now at b d.now).manager r e.0.now)
      free-book-says r e = refl

  module _ (m : Bor PrioritySeg) (w : MutBor PrioritySeg) where
    module _ (κs : Lfts 1) where
      pub priority-open-says : (x : Bor Opening) (r : PriorityOpened) (e : AtExit priority-open.ended κs) → (priority-open.clauses 𝓛 mem run κs (x, tt)).ensures tt r e ≡ fact 𝓤 (Answered (priority_open_of x.now.choices x.now.window x.now.rates x.now.rate_count x.now.delays x.now.delay_count) r)
      priority-open-says x r e = refl

      pub priority-ok-says : (r : Bool) (e : AtExit priority-ok.ended κs) → (priority-ok.clauses 𝓛 mem run κs (m, tt)).ensures tt r e ≡ fact 𝓤 (Answered (priority_ok m.now) r)
      priority-ok-says r e = refl

      pub priority-list-says : (r : PriorityListing) (e : AtExit priority-list.ended κs) → (priority-list.clauses 𝓛 mem run κs (m, tt)).ensures tt r e ≡ fact 𝓤 (Answered (priority_list_of m.now) r)
      priority-list-says r e = refl

      pub priority-dry-run-says : (r : Offer) (e : AtExit priority-dry-run.ended κs) → (priority-dry-run.clauses 𝓛 mem run κs (m, (at, (b, tt)))).ensures tt r e ≡ fact 𝓤 (Answered (priority_dry_run_of m.now at b) r)
      priority-dry-run-says r e = refl

    module _ (κs : Lfts 2) (d : Bor TxData) where
      pub priority-book-says : (r : ℕ) (e : AtExit priority-book.ended κs) → (priority-book.clauses 𝓛 mem run κs (w, (at, (b, (d, tt))))).ensures tt r e ≡ fact 𝓤 (Stored (priority_book_of w.now at b d.now).number (priority_book_of w.now at b d.now).manager r e.0.now)
      priority-book-says r e = refl

  module _ (m : Bor PolySeg) (w : MutBor PolySeg) where
    module _ (κs : Lfts 1) where
      pub polynomial-open-says : (x : Bor PolynomialOpening) (r : PolynomialOpened) (e : AtExit polynomial-open.ended κs) → (polynomial-open.clauses 𝓛 mem run κs (x, tt)).ensures tt r e ≡ fact 𝓤 (Answered (polynomial_open_of x.now.choices x.now.window x.now.polynome x.now.delays x.now.delay_count) r)
      polynomial-open-says x r e = refl

      pub polynomial-ok-says : (r : Bool) (e : AtExit polynomial-ok.ended κs) → (polynomial-ok.clauses 𝓛 mem run κs (m, tt)).ensures tt r e ≡ fact 𝓤 (Answered (polynomial_ok m.now) r)
      polynomial-ok-says r e = refl

      pub polynomial-list-says : (r : PolynomialListing) (e : AtExit polynomial-list.ended κs) → (polynomial-list.clauses 𝓛 mem run κs (m, tt)).ensures tt r e ≡ fact 𝓤 (Answered (polynomial_list_of m.now) r)
      polynomial-list-says r e = refl

      pub polynomial-dry-run-says : (r : Offer) (e : AtExit polynomial-dry-run.ended κs) → (polynomial-dry-run.clauses 𝓛 mem run κs (m, (at, (b, tt)))).ensures tt r e ≡ fact 𝓤 (Answered (polynomial_dry_run_of m.now at b) r)
      polynomial-dry-run-says r e = refl

    module _ (κs : Lfts 2) (d : Bor TxData) where
      pub polynomial-book-says : (r : ℕ) (e : AtExit polynomial-book.ended κs) → (polynomial-book.clauses 𝓛 mem run κs (w, (at, (b, (d, tt))))).ensures tt r e ≡ fact 𝓤 (Stored (polynomial_book_of w.now at b d.now).number (polynomial_book_of w.now at b d.now).manager r e.0.now)
      polynomial-book-says r e = refl

  module _ (m : Bor Queue) (w : MutBor Queue) where
    module _ (κs : Lfts 1) where
      pub queue-open-says : (x : Bor QueueOpening) (r : QueueOpened) (e : AtExit queue-open.ended κs) → (queue-open.clauses 𝓛 mem run κs (x, tt)).ensures tt r e ≡ fact 𝓤 (Answered (queue_open_of x.now.choices x.now.window x.now.rate x.now.delay x.now.classes x.now.flags x.now.budgets) r)
      queue-open-says x r e = refl

      pub queue-ok-says : (r : Bool) (e : AtExit queue-ok.ended κs) → (queue-ok.clauses 𝓛 mem run κs (m, tt)).ensures tt r e ≡ fact 𝓤 (Answered (queue_ok m.now) r)
      queue-ok-says r e = refl

      pub queue-list-says : (r : QueueListing) (e : AtExit queue-list.ended κs) → (queue-list.clauses 𝓛 mem run κs (m, tt)).ensures tt r e ≡ fact 𝓤 (Answered (queue_list_of m.now) r)
      queue-list-says r e = refl

      pub queue-dry-run-says : (r : Offer) (e : AtExit queue-dry-run.ended κs) → (queue-dry-run.clauses 𝓛 mem run κs (m, (at, (b, tt)))).ensures tt r e ≡ fact 𝓤 (Answered (queue_dry_run_of m.now at b) r)
      queue-dry-run-says r e = refl

      pub queue-dry-run-kept-says : (r : Offer) (e : AtExit queue-dry-run-kept.ended κs) → (queue-dry-run-kept.clauses 𝓛 mem run κs (m, (at, (b, tt)))).ensures tt r e ≡ fact 𝓤 (Answered (queue_dry_run_of m.now at b) r)
      queue-dry-run-kept-says r e = refl

      pub queue-enqueue-says : (r : ℕ) (e : AtExit queue-enqueue.ended κs) → (queue-enqueue.clauses 𝓛 mem run κs (w, (b, tt))).ensures tt r e ≡ fact 𝓤 (Stored (enqueue_of w.now b).number (enqueue_of w.now b).manager r e.0.now)
      queue-enqueue-says r e = refl

      pub queue-enqueue-kept-says : (r : ℕ) (e : AtExit queue-enqueue-kept.ended κs) → (queue-enqueue-kept.clauses 𝓛 mem run κs (w, (b, tt))).ensures tt r e ≡ fact 𝓤 (Stored (enqueue_of w.now b).number (enqueue_of w.now b).manager r e.0.now)
      queue-enqueue-kept-says r e = refl

      pub queue-dequeue-says : (r : ℕ) (e : AtExit queue-dequeue.ended κs) → (queue-dequeue.clauses 𝓛 mem run κs (w, (b, tt))).ensures tt r e ≡ fact 𝓤 (Stored (dequeue_of w.now b).number (dequeue_of w.now b).manager r e.0.now)
      queue-dequeue-says r e = refl

      pub queue-dequeue-kept-says : (r : ℕ) (e : AtExit queue-dequeue-kept.ended κs) → (queue-dequeue-kept.clauses 𝓛 mem run κs (w, (b, tt))).ensures tt r e ≡ fact 𝓤 (Stored (dequeue_of w.now b).number (dequeue_of w.now b).manager r e.0.now)
      queue-dequeue-kept-says r e = refl

    module _ (κs : Lfts 2) (d : Bor TxData) where
      pub queue-book-says : (r : ℕ) (e : AtExit queue-book.ended κs) → (queue-book.clauses 𝓛 mem run κs (w, (at, (b, (d, tt))))).ensures tt r e ≡ fact 𝓤 (Stored (queue_book_of w.now at b d.now).number (queue_book_of w.now at b d.now).manager r e.0.now)
      queue-book-says r e = refl

      pub queue-book-kept-says : (r : ℕ) (e : AtExit queue-book-kept.ended κs) → (queue-book-kept.clauses 𝓛 mem run κs (w, (at, (b, (d, tt))))).ensures tt r e ≡ fact 𝓤 (Stored (queue_book_of w.now at b d.now).number (queue_book_of w.now at b d.now).manager r e.0.now)
      queue-book-kept-says r e = refl
