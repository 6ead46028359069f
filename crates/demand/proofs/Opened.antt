-- Demand 3 from a fresh opening on, any calls with any answers that the manager's promises allow, over the contact as it was opened.
use Prim.Native.Nat.{ℕ, ◌+◌, ◌-◌, ◌*◌, ◌≤◌}
use mathlib.Core.Bool.{Bool, true, false}
use mathlib.Core.Path.{◌≡◌, refl, subst}
use mathlib.Core.List.{List, [], ◌∷◌}
use mathlib.Core.Logic.{◌⊎◌}
use lib.Dec.{eqb}
use lib.ListN.{length}
use Rattle.units.specs.declared.Date.{Date}
use Rattle.units.specs.declared.Interval.{Interval}
use Rattle.units.specs.declared.TxData.{TxData}
use Rattle.units.specs.declared.Bundle.{Bundle}
use Rattle.units.specs.Logic.{pick}
use Rattle.units.specs.Limits.{segments_max}
use Rattle.units.specs.Logged.{Booking, State, entry, booked, Runs, done, dry_run, list, book, further}
use Rattle.units.specs.Instants.{AllIn}
use Rattle.segmentation.specs.declared.RateSegment.{RateSegment}
use Rattle.segmentation.specs.declared.DelaySegment.{DelaySegment}
use Rattle.segmentation.specs.declared.VolumeSegment.{VolumeSegment}
use Rattle.segmentation.specs.Capacity.{top_of}
use Rattle.contact.specs.declared.Choices.{Choices}
use Rattle.contact.specs.declared.Contact.{Contact}
use Rattle.contact.specs.Open.{contact_of}
use Rattle.contact.specs.Record.{rates_of, edition_of, total_in}
use Rattle.free_list.specs.Cut.{listed}
use Rattle.free_list.specs.Room.{listed_capacity, Exactly}
use Rattle.free_list.specs.Disjoint.{AllClear, AllApart, Pairwise}
use Rattle.seg.specs.declared.FreeVolume.{FreeVolume}
use Rattle.seg.specs.Open.{open_of}
use Rattle.seg.specs.Book.{book_of}
use Rattle.seg.proofs.Promised.{promised, open-met, book-met, Reached}
use Rattle.seg.proofs.Runs.{reached-contact}
use Rattle.demand.specs.Calls.{State as SizedState, Booking as Sized, Runs as SizedRuns, done as sized-done, dry_run as sized-dry-run, list as sized-list, book as sized-book}
use Rattle.demand.specs.Instants.{AllClear as SizedClear, AllApart as SizedApart, Pairwise as SizedPairwise, AllIn as SizedIn, size_sum, Demand}
use Rattle.demand.specs.Strict.{AllHold}
use Rattle.demand.specs.Opened.{sized, carried_in, DemandIn}
use Rattle.demand.proofs.Demand.{promised as sized-promised, promises-dry-run, promises-list, promises-book, demand-3}
use Rattle.demand.proofs.RoomAfter.{room_after}
use Rattle.demand.proofs.SecondAfter.{second-after}
use Rattle.demand.proofs.Strict.{strict-few}

-- the record and its bookings by send and size
abbrev by_size : State FreeVolume → SizedState
by_size x = record { manager = x.manager; log = sized x.log }

sized-pick : (c : Bool) (e : Booking) (log : List Booking) → sized (pick c (e ∷ log) log) ≡ pick c (record { send = e.send; size = e.size } ∷ sized log) (sized log)
unfolding sized
sized-pick true e log = refl
sized-pick false e log = refl

-- any calls with a log are any calls with one by send and size
sized-runs : (x y : State FreeVolume) → Runs promised x y → SizedRuns sized-promised (by_size x) (by_size y)
sized-runs x y done = sized-done
sized-runs x y (dry_run at b o p rest) = sized-dry-run at b o (promises-dry-run x.manager at b o p) (sized-runs x y rest)
sized-runs x y (list o p rest) = sized-list o (promises-list x.manager o p) (sized-runs x y rest)
sized-runs x y (book at b d a p rest) =
    sized-book at b d a (promises-book x.manager at b d a p)
    (subst (λ (l : List Sized). SizedRuns sized-promised (record { manager = a.manager; log = l }) (by_size y))
    (sized-pick (eqb a.number 0) (entry b d) x.log)
    (sized-runs (booked promised b d a x) y rest))
sized-runs x y (further a p rest) = absurd p

sized-length : (log : List Booking) → length (sized log) ≡ length log
unfolding sized
sized-length [] = refl
sized-length (b ∷ log) = rw (sized-length log)

apart-log : (s e : ℕ) (log : List Booking) → SizedApart s e (sized log) → AllApart s e log
unfolding sized SizedApart AllApart
apart-log s e [] q = tt
apart-log s e (b ∷ log) q = (q.0, apart-log s e log q.1)

pairwise-log : (log : List Booking) → SizedPairwise (sized log) → Pairwise log
unfolding sized SizedPairwise Pairwise
pairwise-log [] q = tt
pairwise-log (b ∷ log) q = (apart-log b.send.start.0 b.send.end.0 log q.0, pairwise-log log q.1)

clear-log : (f : List VolumeSegment) (log : List Booking) → SizedClear f (sized log) → AllClear f log
unfolding sized SizedClear AllClear
clear-log f [] q = tt
clear-log f (b ∷ log) q = (q.0, clear-log f log q.1)

in-log : (w : Interval) (log : List Booking) → SizedIn w (sized log) → AllIn w log
unfolding sized SizedIn AllIn
in-log w [] q = tt
in-log w (b ∷ log) q = (q.0, q.1, q.2, in-log w log q.3)

-- over the record's own contact
demand-log : (x : State FreeVolume) → Demand (by_size x) → DemandIn x.manager.contact (listed x.manager.free) x.log
demand-log x q =
    let n : length (sized x.log) ≡ length x.log = sized-length x.log in
    record {
      disjoint = record { apart = pairwise-log x.log q.apart; clear = clear-log _ x.log q.clear; inside = in-log _ x.log q.inside };
      first = λ one. rw n at (q.first one);
      second = λ two. rw n at (q.second two);
    }

module _ {h : Choices} {w : Interval} {rates : List RateSegment} {m : ℕ} {delays : List DelaySegment} {k : ℕ} {y : State FreeVolume} (q : Reached h w rates m delays k y) where
  runs : SizedRuns sized-promised (record { manager = q.opened.manager; log = [] }) (by_size y)
  unfolding sized
  runs = sized-runs _ y q.runs

  pub demand-3-opened : DemandIn (contact_of h w rates m delays k) (listed y.manager.free) y.log
  demand-3-opened =
      subst (λ (c : Contact). DemandIn c (listed y.manager.free) y.log) (reached-contact q)
      (demand-log y (demand-3 h w rates m delays k q.opened (by_size y) q.rate-size q.delay-size q.met q.accepted runs))

  -- what the room is good for
  pub room-after-opened : (y.manager.room.0 + carried_in (contact_of h w rates m delays k) y.log ≤ total_in (contact_of h w rates m delays k))
      × (h.edition.0 ≡ 1 → y.manager.room.0 + size_sum (sized y.log) ≤ total_in (contact_of h w rates m delays k) + (top_of (rates_of (contact_of h w rates m delays k)) - 1) * length y.log)
      × (h.edition.0 ≡ 2 → y.manager.room.0 + size_sum (sized y.log) ≤ total_in (contact_of h w rates m delays k))
  room-after-opened =
      let n : length (sized y.log) ≡ length y.log = sized-length y.log in
      let r = room_after h w rates m delays k q.opened (by_size y) q.rate-size q.delay-size q.met q.accepted runs in
      subst
      (λ (c : Contact).
      (y.manager.room.0 + carried_in c y.log ≤ total_in c)
      × (edition_of c ≡ 1 → y.manager.room.0 + size_sum (sized y.log) ≤ total_in c + (top_of (rates_of c) - 1) * length y.log)
      × (edition_of c ≡ 2 → y.manager.room.0 + size_sum (sized y.log) ≤ total_in c))
      (reached-contact q)
      (r.0, λ one. rw n at (r.1 one), r.2)

  -- under edition 2 the room is exactly what is left
  pub second-after-opened : h.edition.0 ≡ 2
      → (Exactly (rates_of (contact_of h w rates m delays k)) (listed y.manager.free))
      × (y.manager.room.0 ≡ listed_capacity (rates_of (contact_of h w rates m delays k)) (listed y.manager.free))
      × (y.manager.room.0 + carried_in (contact_of h w rates m delays k) y.log ≡ total_in (contact_of h w rates m delays k))
  second-after-opened two =
      subst
      (λ (c : Contact).
      (Exactly (rates_of c) (listed y.manager.free))
      × (y.manager.room.0 ≡ listed_capacity (rates_of c) (listed y.manager.free))
      × (y.manager.room.0 + carried_in c y.log ≡ total_in c))
      (reached-contact q)
      (second-after h w rates m delays k q.opened (by_size y) q.rate-size q.delay-size q.met q.accepted two runs)

  -- where every send lasts, there are at most as many as the pass has ticks
  pub strict-few-opened : (h.strict.0 ≡ 1) ⊎ (h.edition.0 ≡ 2) → (AllHold (sized y.log)) × (length y.log ≤ w.end.0 - w.start.0)
  strict-few-opened last =
      let f = strict-few h w rates m delays k q.opened (by_size y) q.rate-size q.delay-size q.met q.accepted runs last in
      (f.0, rw (sized-length y.log) at f.1)

-- such a run: an opening that is accepted, and one booking, whatever it answers
module _ (h : Choices) (w : Interval) (rates : List RateSegment) (m : ℕ) (delays : List DelaySegment) (k : ℕ)
    (rate-size : length rates ≡ segments_max) (delay-size : length delays ≡ segments_max) (zero : (open_of h w rates m delays k).number ≡ 0)
    (at : Date) (b : Bundle) (d : TxData) where
  abbrev opened : FreeVolume
  opened = (open_of h w rates m delays k).manager

  abbrev once : State FreeVolume
  once = booked promised b d (book_of opened at b d) (record { manager = opened; log = [] })

  pub one-booking : Reached h w rates m delays k once
  one-booking =
      record {
        opened = open_of h w rates m delays k;
        rate-size = rate-size;
        delay-size = delay-size;
        met = open-met h w rates m delays k;
        accepted = zero;
        runs = book at b d (book_of opened at b d) (book-met opened at b d) done;
      }

  pub one-demand : DemandIn (contact_of h w rates m delays k) (listed once.manager.free) once.log
  one-demand = demand-3-opened one-booking
