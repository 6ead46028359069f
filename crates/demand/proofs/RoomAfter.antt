-- What the room is good for, from a fresh opening on: with the exact capacity of the booked instants it is at most the total volume of the
-- pass, and with the booked sizes too under edition 2, under edition 1 at most R - 1 more for each accepted booking.
use Prim.Native.Nat.{ℕ, ◌+◌, ◌-◌, ◌*◌, ◌≤◌}
use mathlib.Core.Bool.{true}
use mathlib.Core.Path.{◌≡◌, sym, ap, ◌∙◌}
use mathlib.Core.List.{List, [], ◌∷◌}
use native.Mathlib.Omega.{arith}
use lib.ListN.{length}
use Rattle.units.specs.Limits.{segments_max}
use Rattle.units.specs.declared.Date.{Date}
use Rattle.units.specs.declared.Interval.{Interval}
use Rattle.units.specs.declared.TxData.{TxData}
use Rattle.units.specs.declared.Bundle.{Bundle}
use Rattle.units.proofs.Determined.{Met}
use Rattle.segmentation.specs.declared.RateSegment.{RateSegment}
use Rattle.segmentation.specs.declared.DelaySegment.{DelaySegment}
use Rattle.segmentation.specs.Capacity.{top_of}
use Rattle.contact.specs.declared.Choices.{Choices}
use Rattle.contact.specs.declared.Contact.{Contact}
use Rattle.contact.specs.Record.{rates_of, edition_of, total_in}
use Rattle.seg.specs.declared.FreeVolume.{FreeVolume}
use Rattle.seg.specs.declared.Opened.{Opened}
use Rattle.seg.specs.Record.{record_ok}
use Rattle.seg.specs.Book.{book_of}
use Rattle.seg.proofs.Kept.{Accepted, opened-keeps, book-keeps}
use Rattle.seg.proofs.RoomBounds.{listed_time, room-time, time-total, booked-falls}
use Rattle.seg.proofs.FreeVolume.open.Reads as open-reads
use Rattle.demand.specs.Calls.{State, Runs, entry}
use Rattle.demand.specs.Instants.{size_sum, carried}
use Rattle.demand.proofs.Held.{cap_sum, held-sum}
use Rattle.demand.proofs.Demand.{promised, run-accepted, demand-3}

-- the exact capacity of the listed time and of the bookings
record Left (x : State) : Type 0 where
  pub ok : record_ok x.manager ≡ true
  pub time : listed_time x.manager + cap_sum (rates_of x.manager.contact) x.log ≤ total_in x.manager.contact

accepted-left : (x : State) (q : Left x) (at : Date) (b : Bundle) (d : TxData) → Accepted x.manager at b d (book_of x.manager at b d)
    → Left (record { manager = (book_of x.manager at b d).manager; log = entry b d ∷ x.log })
unfolding cap_sum
accepted-left x q at b d y =
    let same : (book_of x.manager at b d).manager.contact ≡ x.manager.contact = ap (λ (m : FreeVolume). m.contact) y.manager in
    record {
      ok = book-keeps x.manager at b d q.ok;
      time = omega (
        arith,
        ap (λ (c : Contact). cap_sum (rates_of c) (entry b d ∷ x.log)) same,
        ap total_in same,
        (booked-falls x.manager q.ok at b d y.number).0,
        q.time,
      );
    }

run-left : (x y : State) → Left x → Runs promised x y → Left y
run-left = run-accepted Left (λ x q. q.ok) accepted-left

fresh-left : (o : Opened) → record_ok o.manager ≡ true → Left (record { manager = o.manager; log = [] })
unfolding cap_sum
fresh-left o e = record { ok = e; time = omega (arith, time-total o.manager e) }

pub room_after : (h : Choices) (w : Interval) (rates : List RateSegment) (m : ℕ) (delays : List DelaySegment) (k : ℕ) (o : Opened) (y : State)
    → length rates ≡ segments_max → length delays ≡ segments_max
    → Met (open-reads.Post tt (h, (w, (rates, (m, (delays, (k, tt))))))) o → o.number ≡ 0
    → Runs promised (record { manager = o.manager; log = [] }) y
    → (y.manager.room.0 + carried y ≤ total_in y.manager.contact)
    × (edition_of y.manager.contact ≡ 1 → y.manager.room.0 + size_sum y.log ≤ total_in y.manager.contact + (top_of (rates_of y.manager.contact) - 1) * length y.log)
    × (edition_of y.manager.contact ≡ 2 → y.manager.room.0 + size_sum y.log ≤ total_in y.manager.contact)
room_after h w rates m delays k o y rate-size delay-size p zero runs =
    let ok : record_ok o.manager ≡ true = rw p.1 (opened-keeps h w rates m delays k rate-size delay-size (sym (ap (λ (x : Opened). x.number) p.1) ∙ zero)) in
    let left : Left y = run-left _ y (fresh-left o ok) runs in
    let three = demand-3 h w rates m delays k o y rate-size delay-size p zero runs in
    let c = y.manager.contact in
    let e = held-sum (rates_of c) c.window y.log three.inside three.apart in
    let room = room-time y.manager left.ok in (
      omega (arith, room, left.time, e),
      λ (one : edition_of c ≡ 1). omega (arith, room, left.time, e, (three.first one).1),
      λ (two : edition_of c ≡ 2). omega (arith, room, left.time, e, (three.second two).0),
    )
