-- An accepted booking keeps what demand 3 asks, with the sum of the bookings' own capacities in place of their instants'.
use Prim.Native.Nat.{ℕ, suc, ◌+◌, ◌-◌, ◌≤◌}
use mathlib.Core.Bool.{true}
use mathlib.Core.Path.{◌≡◌, sym, subst}
use mathlib.Core.List.{List, [], ◌∷◌}
use mathlib.Core.Logic.{⊎_elim}
use native.Mathlib.Nat.{mul-suc}
use native.Mathlib.Omega.{arith}
use lib.ListN.{length}
use borrow.Author.Tests.{eq-eqb, ne_eqb}
use Rattle.units.proofs.Numbers.{eq-or-ne}
use Rattle.units.specs.declared.Date.{Date}
use Rattle.units.specs.declared.TxData.{TxData}
use Rattle.units.specs.declared.Bundle.{Bundle}
use Rattle.segmentation.specs.declared.VolumeSegment.{VolumeSegment}
use Rattle.segmentation.specs.Capacity.{capacity, top_of}
use Rattle.segmentation.proofs.EndLaws.{Ends, lesser, greater, Near, near_first, near-second}
use Rattle.contact.specs.Record.{rates_of, edition_of}
use Rattle.free_list.specs.Cut.{listed, cut_of}
use Rattle.free_list.specs.Instants.{Clear}
use Rattle.free_list.proofs.Offered.{Offered}
use Rattle.free_list.proofs.CutLaws.{clear_apart, cut-clear, cut-own, offered-inside, offered-ends}
use Rattle.free_list.proofs.CutList.{listed_in}
use Rattle.seg.specs.declared.FreeVolume.{FreeVolume}
use Rattle.seg.specs.declared.Booked.{Booked}
use Rattle.seg.specs.Record.{record_ok}
use Rattle.seg.specs.Book.{book_of}
use Rattle.seg.proofs.Facts.{facts, found-offered}
use Rattle.seg.proofs.Kept.{Accepted, book-keeps}
use Rattle.demand.specs.Calls.{Booking, State, entry}
use Rattle.demand.specs.Instants.{AllClear, AllApart, Pairwise, AllIn, size_sum, Within}
use Rattle.demand.proofs.Held.{cap_sum}

-- the lesser of the capacity c and the size v of n bookings falls below the greater by at most r - 1 for each
abbrev pub Sums : ℕ → ℕ → ℕ → ℕ → ℕ → Type 0
Sums k r n c v = Within r n (lesser k c v) (greater k c v)

within-add : (r n a b x y : ℕ) → (a ≤ b) × (b ≤ a + (r - 1)) → Within r n x y → Within r (suc n) (a + x) (b + y)
within-add r n a b x y h q = (omega (arith, h, q), omega (arith, h, q, mul-suc (r - 1) n))

-- one more booking
sums-add : (k r n c v cs vs : ℕ) → Near k r c v → Sums k r n cs vs → Sums k r (suc n) (c + cs) (v + vs)
sums-add k r n c v cs vs h q =
    ⊎_elim
    (λ (two : k ≡ 2).
    let q2 : Within r n vs cs = rw (eq-eqb k 2 two) at q in
    rw (eq-eqb k 2 two) (within-add r n v c vs cs (near-second k r c v two h) q2))
    (λ (one : k ≡ 2 → ⊥).
    let q1 : Within r n cs vs = rw (ne_eqb k 2 one) at q in
    rw (ne_eqb k 2 one) (within-add r n c v cs vs (near_first k r c v one h) q1))
    (eq-or-ne k 2)

pub record Keeping (x : State) : Type 0 where
  pub ok : record_ok x.manager ≡ true
  pub apart : Pairwise x.log
  pub clear : AllClear (listed x.manager.free) x.log
  pub inside : AllIn x.manager.contact.window x.log
  pub sums : Sums (edition_of x.manager.contact) (top_of (rates_of x.manager.contact)) (length x.log) (cap_sum (rates_of x.manager.contact) x.log) (size_sum x.log)

-- the bookings are clear of the list that a cut leaves, and apart from what it takes
module _ (k : ℕ) (l : List VolumeSegment) (top hi s e v : ℕ) (f : List VolumeSegment) (i : ℕ) (h : Offered k l top f i s e v) where
  log-clear : (log : List Booking) → AllClear f log → AllClear (cut_of k l f i s e v) log
  unfolding AllClear
  log-clear [] c = tt
  log-clear (b ∷ log) c = (cut-clear k l top hi s e v b.send.start.0 b.send.end.0 f i c.0 h, log-clear log c.1)

  log-apart : (log : List Booking) → AllClear f log → AllApart s e log
  unfolding AllClear AllApart
  log-apart [] c = tt
  log-apart (b ∷ log) c = (clear_apart k l top hi s e v b.send.start.0 b.send.end.0 f i c.0 h, log-apart log c.1)

clear-more : (f : List VolumeSegment) (b : Booking) (log : List Booking) → Clear b.send.start.0 b.send.end.0 f → AllClear f log → AllClear f (b ∷ log)
unfolding AllClear
clear-more f b log h c = (h, c)

module _ (x : State) (q : Keeping x) (at : Date) (b : Bundle) (d : TxData) where
  abbrev booked : Booked
  booked = book_of x.manager at b d

  pub accepted-keeps : Accepted x.manager at b d booked → Keeping (record { manager = booked.manager; log = entry b d ∷ x.log })
  unfolding Pairwise AllIn cap_sum size_sum
  accepted-keeps y =
      let r = x.manager in
      let l = rates_of r.contact in
      let f = listed r.free in
      let hi = r.contact.window.end.0 in
      let s = d.send.start.0 in
      let e = d.send.end.0 in
      let v = b.size.0 in
      let k = edition_of r.contact in
      let fs = facts r q.ok in
      let o = found-offered r fs at.0 v y.some y.place d.send y.found in
      let n : Ends k l (top_of l) s v _ e = (offered-ends k l (top_of l) s e v f y.place o).1 in
      let w = offered-inside k l (top_of l) hi s e v f _ y.place fs.free o in
      let left = listed_in (cut_of k l f y.place s e v) in
      subst (λ (m : FreeVolume). Keeping (record { manager = m; log = entry b d ∷ x.log })) (sym y.manager) (record {
        ok = rw y.manager at (book-keeps r at b d q.ok);
        apart = (log-apart k l (top_of l) hi s e v f y.place o x.log q.clear, q.apart);
        clear = rw left (clear-more (cut_of k l f y.place s e v) (entry b d) x.log
            (cut-own k l (top_of l) hi s e v f _ y.place fs.free o)
            (log-clear k l (top_of l) hi s e v f y.place o x.log q.clear));
        inside = (w.0, n.forth, w.1, q.inside);
        sums = sums-add k (top_of l) (length x.log) (capacity l s e) v (cap_sum l x.log) (size_sum x.log) n.near q.sums;
      })
