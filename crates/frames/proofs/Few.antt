-- A list's answer has at most 64 segments, or at most 8 classes: a record's own list has, and a refusal's has none.
use Prim.Native.Nat.{◌≤◌}
use native.Mathlib.Omega.{arith}
use Rattle.units.specs.Limits.{listed_max}
use Rattle.units.proofs.Logic.{unless-keeps}
use Rattle.seg.specs.declared.FreeVolume.{FreeVolume}
use Rattle.seg.specs.declared.Listing.{Listing as FreeListing}
use Rattle.seg.specs.Record.{record_ok as free_ok}
use Rattle.seg.specs.List.{list_of as list_free}
use Rattle.seg.proofs.Facts.{facts as free-facts}
use Rattle.pseg.specs.declared.PrioritySeg.{PrioritySeg}
use Rattle.pseg.specs.declared.Listing.{Listing as PriorityListing}
use Rattle.pseg.specs.Record.{record_ok as priority_ok}
use Rattle.pseg.specs.List.{list_of as list_priority}
use Rattle.pseg.proofs.Facts.{facts as priority-facts}
use Rattle.poly_seg.specs.declared.PolySeg.{PolySeg}
use Rattle.poly_seg.specs.declared.Listing.{Listing as PolynomialListing}
use Rattle.poly_seg.specs.Record.{record_ok as polynomial_ok}
use Rattle.poly_seg.specs.List.{list_of as list_polynomial}
use Rattle.poly_seg.proofs.Facts.{facts as polynomial-facts}
use Rattle.legacy.specs.declared.Queue.{Queue}
use Rattle.legacy.specs.declared.Listing.{Listing as QueueListing}
use Rattle.legacy.specs.Record.{record_ok as queue_ok}
use Rattle.legacy.specs.List.{list_of as list_queue}
use Rattle.legacy.proofs.Facts.{sound}
use Rattle.legacy.specs.Open.{classes_max}

pub few-free : (r : FreeVolume) → (list_free r).list.count ≤ listed_max
unfolding list_free
few-free r = unless-keeps (λ (l : FreeListing). l.list.count ≤ listed_max) (free_ok r) _ _ (λ e. omega arith) (λ e. (free-facts r e).few)

pub few-priority : (r : PrioritySeg) → (list_priority r).list.count ≤ listed_max
unfolding list_priority
few-priority r =
    unless-keeps (λ (l : PriorityListing). l.list.count ≤ listed_max) (priority_ok r) _ _ (λ e. omega arith) (λ e. (priority-facts r e).few)

pub few-polynomial : (r : PolySeg) → (list_polynomial r).list.count ≤ listed_max
unfolding list_polynomial
few-polynomial r =
    unless-keeps (λ (l : PolynomialListing). l.list.count ≤ listed_max) (polynomial_ok r) _ _ (λ e. omega arith) (λ e. (polynomial-facts r e).few)

pub few-classes : (r : Queue) → (list_queue r).classes ≤ classes_max
unfolding list_queue
few-classes r = unless-keeps (λ (l : QueueListing). l.classes ≤ classes_max) (queue_ok r) _ _ (λ e. omega arith) (λ e. (sound r e).eight)
