-- A send that is cut out of the free list is apart from every booking that the list is clear of, and the list that is left is clear of all of them.
use Prim.Native.Nat.{ℕ}
use mathlib.Core.List.{List, [], ◌∷◌}
use native.Mathlib.Omega.{arith}
use Rattle.units.specs.declared.Interval.{Interval}
use Rattle.units.specs.Logged.{Booking}
use Rattle.units.specs.Instants.{AllIn}
use Rattle.segmentation.specs.declared.VolumeSegment.{VolumeSegment}
use Rattle.free_list.specs.Cut.{cut_of}
use Rattle.free_list.specs.Disjoint.{AllClear, AllApart, Pairwise, Disjoint}
use Rattle.free_list.proofs.ListedLaws.{Listed}
use Rattle.free_list.proofs.Offered.{Offered}
use Rattle.free_list.proofs.CutLaws.{clear_apart, cut-clear, cut-own, offered-inside, offered-ends}

-- nothing is booked yet
pub none-disjoint : (w : Interval) (f : List VolumeSegment) → Disjoint w f []
unfolding AllClear Pairwise AllIn
none-disjoint w f = record { apart = tt; clear = tt; inside = tt }

module _ (k : ℕ) (l : List VolumeSegment) (top hi s e v : ℕ) (f : List VolumeSegment) (i : ℕ) (h : Offered k l top f i s e v) where
  log-clear : (log : List Booking) → AllClear f log → AllClear (cut_of k l f i s e v) log
  unfolding AllClear
  log-clear [] c = tt
  log-clear (b ∷ log) c = (cut-clear k l top hi s e v _ _ f i c.0 h, log-clear log c.1)

  log-apart : (log : List Booking) → AllClear f log → AllApart s e log
  unfolding AllClear AllApart
  log-apart [] c = tt
  log-apart (b ∷ log) c =
      (λ t p q m n. clear_apart k l top hi s e v _ _ f i c.0 h t p q (omega arith) (omega arith), log-apart log c.1)

-- one more booking
module _ (k : ℕ) (l : List VolumeSegment) (top : ℕ) (w : Interval) (b : Booking) (v : ℕ) (f : List VolumeSegment) (i : ℕ)
    (rules : Listed l w.start.0 w.end.0 f) (h : Offered k l top f i b.send.start.0 b.send.end.0 v) where
  pub cut-disjoint : (log : List Booking) → Disjoint w f log → Disjoint w (cut_of k l f i b.send.start.0 b.send.end.0 v) (b ∷ log)
  unfolding AllClear Pairwise AllIn
  cut-disjoint log q =
      let s = b.send.start.0 in
      let e = b.send.end.0 in
      let hi = w.end.0 in
      let n = (offered-ends k l top s e v f i h).1 in
      let at = offered-inside k l top hi s e v f _ i rules h in
      record {
        apart = (log-apart k l top hi s e v f i h log q.clear, q.apart);
        clear = (cut-own k l top hi s e v f _ i rules h, log-clear k l top hi s e v f i h log q.clear);
        inside = (at.0, n.forth, at.1, q.inside);
      }
