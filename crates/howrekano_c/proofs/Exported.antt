-- Each export's contract is that of the call of its name in the crate howrekano, so what is proved of those is proved of the exports.
use mathlib.Core.Path.{◌≡◌, refl}
use seplogic.Ra.Ura.{Ura}
use base.Logic.{SProp}
use prog.Memory.{Memory}
use prog.Routine.{Routine}
use types.Logic.{Logic}
use contract.Lifetimes.{Lfts}
use contract.Monad.{Fun}
use Rattle.howrekano.specs.contracts.free.hk_free_open as free-open
use Rattle.howrekano_c.specs.contracts.free.hk_free_open as exported-free-open
use Rattle.howrekano.specs.contracts.free.hk_free_ok as free-ok
use Rattle.howrekano_c.specs.contracts.free.hk_free_ok as exported-free-ok
use Rattle.howrekano.specs.contracts.free.hk_free_list as free-list
use Rattle.howrekano_c.specs.contracts.free.hk_free_list as exported-free-list
use Rattle.howrekano.specs.contracts.free.hk_free_room as free-room
use Rattle.howrekano_c.specs.contracts.free.hk_free_room as exported-free-room
use Rattle.howrekano.specs.contracts.free.hk_free_room_kept as free-room-kept
use Rattle.howrekano_c.specs.contracts.free.hk_free_room_kept as exported-free-room-kept
use Rattle.howrekano.specs.contracts.free.hk_free_dry_run as free-dry-run
use Rattle.howrekano_c.specs.contracts.free.hk_free_dry_run as exported-free-dry-run
use Rattle.howrekano.specs.contracts.free.hk_free_book as free-book
use Rattle.howrekano_c.specs.contracts.free.hk_free_book as exported-free-book
use Rattle.howrekano.specs.contracts.free.hk_free_dry_run_kept as free-dry-run-kept
use Rattle.howrekano_c.specs.contracts.free.hk_free_dry_run_kept as exported-free-dry-run-kept
use Rattle.howrekano.specs.contracts.free.hk_free_book_kept as free-book-kept
use Rattle.howrekano_c.specs.contracts.free.hk_free_book_kept as exported-free-book-kept
use Rattle.howrekano.specs.contracts.priority.hk_priority_open as priority-open
use Rattle.howrekano_c.specs.contracts.priority.hk_priority_open as exported-priority-open
use Rattle.howrekano.specs.contracts.priority.hk_priority_ok as priority-ok
use Rattle.howrekano_c.specs.contracts.priority.hk_priority_ok as exported-priority-ok
use Rattle.howrekano.specs.contracts.priority.hk_priority_list as priority-list
use Rattle.howrekano_c.specs.contracts.priority.hk_priority_list as exported-priority-list
use Rattle.howrekano.specs.contracts.priority.hk_priority_dry_run as priority-dry-run
use Rattle.howrekano_c.specs.contracts.priority.hk_priority_dry_run as exported-priority-dry-run
use Rattle.howrekano.specs.contracts.priority.hk_priority_book as priority-book
use Rattle.howrekano_c.specs.contracts.priority.hk_priority_book as exported-priority-book
use Rattle.howrekano.specs.contracts.priority.hk_priority_dry_run_kept as priority-dry-run-kept
use Rattle.howrekano_c.specs.contracts.priority.hk_priority_dry_run_kept as exported-priority-dry-run-kept
use Rattle.howrekano.specs.contracts.priority.hk_priority_book_kept as priority-book-kept
use Rattle.howrekano_c.specs.contracts.priority.hk_priority_book_kept as exported-priority-book-kept
use Rattle.howrekano.specs.contracts.polynomial.hk_polynomial_open as polynomial-open
use Rattle.howrekano_c.specs.contracts.polynomial.hk_polynomial_open as exported-polynomial-open
use Rattle.howrekano.specs.contracts.polynomial.hk_polynomial_ok as polynomial-ok
use Rattle.howrekano_c.specs.contracts.polynomial.hk_polynomial_ok as exported-polynomial-ok
use Rattle.howrekano.specs.contracts.polynomial.hk_polynomial_list as polynomial-list
use Rattle.howrekano_c.specs.contracts.polynomial.hk_polynomial_list as exported-polynomial-list
use Rattle.howrekano.specs.contracts.polynomial.hk_polynomial_dry_run as polynomial-dry-run
use Rattle.howrekano_c.specs.contracts.polynomial.hk_polynomial_dry_run as exported-polynomial-dry-run
use Rattle.howrekano.specs.contracts.polynomial.hk_polynomial_book as polynomial-book
use Rattle.howrekano_c.specs.contracts.polynomial.hk_polynomial_book as exported-polynomial-book
use Rattle.howrekano.specs.contracts.polynomial.hk_polynomial_dry_run_kept as polynomial-dry-run-kept
use Rattle.howrekano_c.specs.contracts.polynomial.hk_polynomial_dry_run_kept as exported-polynomial-dry-run-kept
use Rattle.howrekano.specs.contracts.polynomial.hk_polynomial_book_kept as polynomial-book-kept
use Rattle.howrekano_c.specs.contracts.polynomial.hk_polynomial_book_kept as exported-polynomial-book-kept
use Rattle.howrekano.specs.contracts.queue.hk_queue_open as queue-open
use Rattle.howrekano_c.specs.contracts.queue.hk_queue_open as exported-queue-open
use Rattle.howrekano.specs.contracts.queue.hk_queue_ok as queue-ok
use Rattle.howrekano_c.specs.contracts.queue.hk_queue_ok as exported-queue-ok
use Rattle.howrekano.specs.contracts.queue.hk_queue_list as queue-list
use Rattle.howrekano_c.specs.contracts.queue.hk_queue_list as exported-queue-list
use Rattle.howrekano.specs.contracts.queue.hk_queue_dry_run as queue-dry-run
use Rattle.howrekano_c.specs.contracts.queue.hk_queue_dry_run as exported-queue-dry-run
use Rattle.howrekano.specs.contracts.queue.hk_queue_dry_run_kept as queue-dry-run-kept
use Rattle.howrekano_c.specs.contracts.queue.hk_queue_dry_run_kept as exported-queue-dry-run-kept
use Rattle.howrekano.specs.contracts.queue.hk_queue_book as queue-book
use Rattle.howrekano_c.specs.contracts.queue.hk_queue_book as exported-queue-book
use Rattle.howrekano.specs.contracts.queue.hk_queue_book_kept as queue-book-kept
use Rattle.howrekano_c.specs.contracts.queue.hk_queue_book_kept as exported-queue-book-kept
use Rattle.howrekano.specs.contracts.queue.hk_queue_enqueue as queue-enqueue
use Rattle.howrekano_c.specs.contracts.queue.hk_queue_enqueue as exported-queue-enqueue
use Rattle.howrekano.specs.contracts.queue.hk_queue_enqueue_kept as queue-enqueue-kept
use Rattle.howrekano_c.specs.contracts.queue.hk_queue_enqueue_kept as exported-queue-enqueue-kept
use Rattle.howrekano.specs.contracts.queue.hk_queue_dequeue as queue-dequeue
use Rattle.howrekano_c.specs.contracts.queue.hk_queue_dequeue as exported-queue-dequeue
use Rattle.howrekano.specs.contracts.queue.hk_queue_dequeue_kept as queue-dequeue-kept
use Rattle.howrekano_c.specs.contracts.queue.hk_queue_dequeue_kept as exported-queue-dequeue-kept

module _ {M : Type 1} {𝓤 : Ura M} (𝓛 : Logic 𝓤) (mem : Memory → SProp 𝓤) (run : Routine → Fun 𝓤) where
  pub free-open-exported : (κs : Lfts 1) → exported-free-open.clauses 𝓛 mem run κs ≡ free-open.clauses 𝓛 mem run κs
  free-open-exported κs = refl

  pub free-ok-exported : (κs : Lfts 1) → exported-free-ok.clauses 𝓛 mem run κs ≡ free-ok.clauses 𝓛 mem run κs
  free-ok-exported κs = refl

  pub free-list-exported : (κs : Lfts 1) → exported-free-list.clauses 𝓛 mem run κs ≡ free-list.clauses 𝓛 mem run κs
  free-list-exported κs = refl

  pub free-room-exported : (κs : Lfts 1) → exported-free-room.clauses 𝓛 mem run κs ≡ free-room.clauses 𝓛 mem run κs
  free-room-exported κs = refl

  pub free-room-kept-exported : (κs : Lfts 1) → exported-free-room-kept.clauses 𝓛 mem run κs ≡ free-room-kept.clauses 𝓛 mem run κs
  free-room-kept-exported κs = refl

  pub free-dry-run-exported : (κs : Lfts 1) → exported-free-dry-run.clauses 𝓛 mem run κs ≡ free-dry-run.clauses 𝓛 mem run κs
  free-dry-run-exported κs = refl

  pub free-book-exported : (κs : Lfts 2) → exported-free-book.clauses 𝓛 mem run κs ≡ free-book.clauses 𝓛 mem run κs
  free-book-exported κs = refl

  pub free-dry-run-kept-exported : (κs : Lfts 4) → exported-free-dry-run-kept.clauses 𝓛 mem run κs ≡ free-dry-run-kept.clauses 𝓛 mem run κs
  free-dry-run-kept-exported κs = refl

  pub free-book-kept-exported : (κs : Lfts 7) → exported-free-book-kept.clauses 𝓛 mem run κs ≡ free-book-kept.clauses 𝓛 mem run κs
  free-book-kept-exported κs = refl

  pub priority-open-exported : (κs : Lfts 1) → exported-priority-open.clauses 𝓛 mem run κs ≡ priority-open.clauses 𝓛 mem run κs
  priority-open-exported κs = refl

  pub priority-ok-exported : (κs : Lfts 1) → exported-priority-ok.clauses 𝓛 mem run κs ≡ priority-ok.clauses 𝓛 mem run κs
  priority-ok-exported κs = refl

  pub priority-list-exported : (κs : Lfts 1) → exported-priority-list.clauses 𝓛 mem run κs ≡ priority-list.clauses 𝓛 mem run κs
  priority-list-exported κs = refl

  pub priority-dry-run-exported : (κs : Lfts 1) → exported-priority-dry-run.clauses 𝓛 mem run κs ≡ priority-dry-run.clauses 𝓛 mem run κs
  priority-dry-run-exported κs = refl

  pub priority-book-exported : (κs : Lfts 2) → exported-priority-book.clauses 𝓛 mem run κs ≡ priority-book.clauses 𝓛 mem run κs
  priority-book-exported κs = refl

  pub priority-dry-run-kept-exported : (κs : Lfts 4) → exported-priority-dry-run-kept.clauses 𝓛 mem run κs ≡ priority-dry-run-kept.clauses 𝓛 mem run κs
  priority-dry-run-kept-exported κs = refl

  pub priority-book-kept-exported : (κs : Lfts 6) → exported-priority-book-kept.clauses 𝓛 mem run κs ≡ priority-book-kept.clauses 𝓛 mem run κs
  priority-book-kept-exported κs = refl

  pub polynomial-open-exported : (κs : Lfts 1) → exported-polynomial-open.clauses 𝓛 mem run κs ≡ polynomial-open.clauses 𝓛 mem run κs
  polynomial-open-exported κs = refl

  pub polynomial-ok-exported : (κs : Lfts 1) → exported-polynomial-ok.clauses 𝓛 mem run κs ≡ polynomial-ok.clauses 𝓛 mem run κs
  polynomial-ok-exported κs = refl

  pub polynomial-list-exported : (κs : Lfts 1) → exported-polynomial-list.clauses 𝓛 mem run κs ≡ polynomial-list.clauses 𝓛 mem run κs
  polynomial-list-exported κs = refl

  pub polynomial-dry-run-exported : (κs : Lfts 1) → exported-polynomial-dry-run.clauses 𝓛 mem run κs ≡ polynomial-dry-run.clauses 𝓛 mem run κs
  polynomial-dry-run-exported κs = refl

  pub polynomial-book-exported : (κs : Lfts 2) → exported-polynomial-book.clauses 𝓛 mem run κs ≡ polynomial-book.clauses 𝓛 mem run κs
  polynomial-book-exported κs = refl

  pub polynomial-dry-run-kept-exported : (κs : Lfts 4) → exported-polynomial-dry-run-kept.clauses 𝓛 mem run κs ≡ polynomial-dry-run-kept.clauses 𝓛 mem run κs
  polynomial-dry-run-kept-exported κs = refl

  pub polynomial-book-kept-exported : (κs : Lfts 6) → exported-polynomial-book-kept.clauses 𝓛 mem run κs ≡ polynomial-book-kept.clauses 𝓛 mem run κs
  polynomial-book-kept-exported κs = refl

  pub queue-open-exported : (κs : Lfts 1) → exported-queue-open.clauses 𝓛 mem run κs ≡ queue-open.clauses 𝓛 mem run κs
  queue-open-exported κs = refl

  pub queue-ok-exported : (κs : Lfts 1) → exported-queue-ok.clauses 𝓛 mem run κs ≡ queue-ok.clauses 𝓛 mem run κs
  queue-ok-exported κs = refl

  pub queue-list-exported : (κs : Lfts 1) → exported-queue-list.clauses 𝓛 mem run κs ≡ queue-list.clauses 𝓛 mem run κs
  queue-list-exported κs = refl

  pub queue-dry-run-exported : (κs : Lfts 1) → exported-queue-dry-run.clauses 𝓛 mem run κs ≡ queue-dry-run.clauses 𝓛 mem run κs
  queue-dry-run-exported κs = refl

  pub queue-dry-run-kept-exported : (κs : Lfts 1) → exported-queue-dry-run-kept.clauses 𝓛 mem run κs ≡ queue-dry-run-kept.clauses 𝓛 mem run κs
  queue-dry-run-kept-exported κs = refl

  pub queue-book-exported : (κs : Lfts 2) → exported-queue-book.clauses 𝓛 mem run κs ≡ queue-book.clauses 𝓛 mem run κs
  queue-book-exported κs = refl

  pub queue-book-kept-exported : (κs : Lfts 2) → exported-queue-book-kept.clauses 𝓛 mem run κs ≡ queue-book-kept.clauses 𝓛 mem run κs
  queue-book-kept-exported κs = refl

  pub queue-enqueue-exported : (κs : Lfts 1) → exported-queue-enqueue.clauses 𝓛 mem run κs ≡ queue-enqueue.clauses 𝓛 mem run κs
  queue-enqueue-exported κs = refl

  pub queue-enqueue-kept-exported : (κs : Lfts 1) → exported-queue-enqueue-kept.clauses 𝓛 mem run κs ≡ queue-enqueue-kept.clauses 𝓛 mem run κs
  queue-enqueue-kept-exported κs = refl

  pub queue-dequeue-exported : (κs : Lfts 1) → exported-queue-dequeue.clauses 𝓛 mem run κs ≡ queue-dequeue.clauses 𝓛 mem run κs
  queue-dequeue-exported κs = refl

  pub queue-dequeue-kept-exported : (κs : Lfts 1) → exported-queue-dequeue-kept.clauses 𝓛 mem run κs ≡ queue-dequeue-kept.clauses 𝓛 mem run κs
  queue-dequeue-kept-exported κs = refl
