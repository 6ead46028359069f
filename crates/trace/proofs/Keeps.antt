-- What a booking leaves of a record in place keeps the record's rules: it is what the manager's booking leaves.
use Prim.Native.Nat.{ℕ}
use mathlib.Core.Bool.{true}
use mathlib.Core.List.{List}
use mathlib.Core.Path.{◌≡◌, sym, ap, ◌∙◌}
use lib.Dec.{eqb}
use Rattle.units.specs.declared.Date.{Date}
use Rattle.units.specs.declared.Bundle.{Bundle}
use Rattle.units.specs.declared.TxData.{TxData}
use Rattle.units.specs.Granted.{refusal_of}
use Rattle.units.proofs.Logic.{pick-keeps}
use Rattle.free_list.specs.declared.Chosen.{Chosen}
use Rattle.free_list.specs.declared.Cut.{Cut}
use Rattle.free_list.specs.Granted.{Inside}
use Rattle.seg.specs.declared.FreeVolume.{FreeVolume}
use Rattle.seg.specs.declared.Booked.{Booked as FreeBooked}
use Rattle.seg.specs.Record.{record_ok as free_ok}
use Rattle.seg.specs.Book.{book_of as book_free}
use Rattle.seg.proofs.Kept.{book-keeps as free-book}
use Rattle.pseg.specs.declared.PrioritySeg.{PrioritySeg}
use Rattle.pseg.specs.declared.Booked.{Booked as PriorityBooked}
use Rattle.pseg.specs.Record.{record_ok as priority_ok}
use Rattle.pseg.specs.Book.{book_of as book_priority}
use Rattle.pseg.proofs.Kept.{book-keeps as priority-book}
use Rattle.poly_seg.specs.declared.PolySeg.{PolySeg}
use Rattle.poly_seg.specs.declared.Booked.{Booked as PolynomialBooked}
use Rattle.poly_seg.specs.Record.{record_ok as polynomial_ok, strict_of as strict_polynomial}
use Rattle.poly_seg.specs.Book.{cut_free as cut_bare, with_free}
use Rattle.poly_seg.specs.Granted.{chosen_of as chosen_polynomial}
use Rattle.poly_seg.proofs.Calls.{chosen-done as polynomial-done}
use Rattle.poly_seg.proofs.Kept.{book-keeps as polynomial-book}
use Rattle.legacy.specs.declared.Queue.{Queue}
use Rattle.legacy.specs.declared.Booked.{Booked as QueueBooked}
use Rattle.legacy.specs.Record.{record_ok as queue_ok}
use Rattle.legacy.specs.Book.{book_of as book_queue}
use Rattle.legacy.specs.Queueing.{enqueue_of, dequeue_of}
use Rattle.legacy.proofs.Kept.{book-ok, enqueue-ok, dequeue-ok}
use Rattle.hexadecimal.specs.Digits.{byte_at}
use Rattle.layout.specs.Fields.{bundle_at}
use Rattle.frames.specs.Granted.{queueing_of}

module _ (at : Date) (b : Bundle) (d : TxData) where
  pub free-booked : (h : FreeVolume) → free_ok h ≡ true → {x : FreeBooked} → x ≡ book_free h at b d → free_ok x.manager ≡ true
  free-booked h ok is = ap (λ (y : FreeBooked). free_ok y.manager) is ∙ free-book _ at b d ok

  module _ (h : PolySeg) (ok : polynomial_ok h ≡ true) {c : Chosen} (is : c ≡ chosen_polynomial h at b) (none : refusal_of (strict_polynomial h) c.offer d ≡ 0) where
    polynomial-none : refusal_of (strict_polynomial h) (chosen_polynomial h at b).offer d ≡ 0
    polynomial-none = ap (λ (x : Chosen). refusal_of (strict_polynomial h) x.offer d) (sym is) ∙ none

    pub polynomial-inside : Inside h.free c.place 0
    polynomial-inside = rw is (polynomial-done _ _ _ ok d polynomial-none).1

    pub polynomial-cut : {x : Cut} → x ≡ cut_bare h c.place d.send → polynomial_ok (with_free h x.list) ≡ true
    polynomial-cut cut =
        let left = ap (λ (y : Cut). with_free h y.list) (cut ∙ ap (λ (y : Chosen). cut_bare h y.place d.send) is) in
        ap polynomial_ok (left ∙ sym (ap (λ (y : PolynomialBooked). y.manager) (polynomial-done _ _ _ ok d polynomial-none).0)) ∙ polynomial-book _ at b d ok

  pub priority-booked : (h : PrioritySeg) → priority_ok h ≡ true → {x : PriorityBooked} → x ≡ book_priority h at b d → priority_ok x.manager ≡ true
  priority-booked h ok is = ap (λ (y : PriorityBooked). priority_ok y.manager) is ∙ priority-book _ at b d ok

  pub queue-booked : (h : Queue) → queue_ok h ≡ true → {x : QueueBooked} → x ≡ book_queue h at b d → queue_ok x.manager ≡ true
  queue-booked h ok is = ap (λ (y : QueueBooked). queue_ok y.manager) is ∙ book-ok _ b ok at d

pub queueing-kept : (line : List ℕ) (h : Queue) → queue_ok h ≡ true → {x : QueueBooked} → x ≡ queueing_of line h → queue_ok x.manager ≡ true
unfolding queueing_of
queueing-kept line h ok is =
    ap (λ (y : QueueBooked). queue_ok y.manager) is
    ∙ pick-keeps (λ (y : QueueBooked). queue_ok y.manager ≡ true) (eqb (byte_at line 0) 19) (enqueue_of h (bundle_at line 1)) (dequeue_of h (bundle_at line 1))
    (λ _. enqueue-ok _ _ ok)
    (λ _. dequeue-ok _ _ ok)
