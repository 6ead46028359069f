-- Edition 2, from a fresh opening on, after any calls: each listed volume is exactly its segment's capacity, so the room is exactly the capacity of
-- the listed time; with the exact capacity of the booked instants it is the total volume of the pass.
use Prim.Native.Nat.{ℕ, ◌+◌}
use mathlib.Core.Bool.{true}
use mathlib.Core.Path.{◌≡◌, sym, ap, ◌∙◌}
use mathlib.Core.List.{List, [], ◌∷◌}
use native.Mathlib.Omega.{arith}
use lib.ListN.{length}
use Rattle.units.specs.Limits.{segments_max}
use Rattle.units.specs.declared.Date.{Date}
use Rattle.units.specs.declared.Interval.{Interval}
use Rattle.units.specs.declared.TxData.{TxData}
use Rattle.units.specs.declared.Bundle.{Bundle}
use Rattle.units.proofs.Determined.{Met}
use Rattle.segmentation.specs.declared.RateSegment.{RateSegment}
use Rattle.segmentation.specs.declared.DelaySegment.{DelaySegment}
use Rattle.contact.specs.declared.Choices.{Choices}
use Rattle.contact.specs.declared.Contact.{Contact}
use Rattle.contact.specs.Record.{rates_of, edition_of, total_in}
use Rattle.free_list.specs.Cut.{listed}
use Rattle.free_list.specs.Room.{listed_capacity, Exactly}
use Rattle.seg.specs.declared.FreeVolume.{FreeVolume}
use Rattle.seg.specs.declared.Opened.{Opened}
use Rattle.seg.specs.Record.{record_ok}
use Rattle.seg.specs.Book.{book_of}
use Rattle.seg.proofs.Kept.{Accepted, opened-keeps, book-keeps}
use Rattle.seg.proofs.RoomBounds.{listed_time}
use Rattle.seg.proofs.Second.{ExactlyIn, room-exactly, opened-exactly, opened-time, opened-edition, booked-exactly, booked-time}
use Rattle.seg.proofs.FreeVolume.open.Reads as open-reads
use Rattle.demand.specs.Calls.{State, Runs, entry}
use Rattle.demand.specs.Instants.{carried}
use Rattle.demand.proofs.Held.{cap_sum, held-sum}
use Rattle.demand.proofs.Demand.{promised, run-accepted, demand-3}

-- the record's volumes are exact, and what is listed and what is booked make up the pass
record Whole (x : State) : Type 0 where
  pub ok : record_ok x.manager ≡ true
  pub edition : edition_of x.manager.contact ≡ 2
  pub exactly : ExactlyIn x.manager
  pub time : listed_time x.manager + cap_sum (rates_of x.manager.contact) x.log ≡ total_in x.manager.contact

accepted-whole : (x : State) (q : Whole x) (at : Date) (b : Bundle) (d : TxData) → Accepted x.manager at b d (book_of x.manager at b d)
    → Whole (record { manager = (book_of x.manager at b d).manager; log = entry b d ∷ x.log })
unfolding cap_sum
accepted-whole x q at b d y =
    let same : (book_of x.manager at b d).manager.contact ≡ x.manager.contact = ap (λ (m : FreeVolume). m.contact) y.manager in
    record {
      ok = book-keeps x.manager at b d q.ok;
      edition = ap edition_of same ∙ q.edition;
      exactly = booked-exactly x.manager at b d q.ok q.edition q.exactly;
      time = omega (
        arith,
        ap (λ (c : Contact). cap_sum (rates_of c) (entry b d ∷ x.log)) same,
        ap total_in same,
        booked-time x.manager at b d q.ok q.edition y,
        q.time,
      );
    }

run-whole : (x y : State) → Whole x → Runs promised x y → Whole y
run-whole = run-accepted Whole (λ x q. q.ok) accepted-whole

module _ (h : Choices) (w : Interval) (rates : List RateSegment) (m : ℕ) (delays : List DelaySegment) (k : ℕ) (o : Opened) (y : State)
    (rate-size : length rates ≡ segments_max) (delay-size : length delays ≡ segments_max)
    (p : Met (open-reads.Post tt (h, (w, (rates, (m, (delays, (k, tt))))))) o) (zero : o.number ≡ 0)
    (two : h.edition.0 ≡ 2) (runs : Runs promised (record { manager = o.manager; log = [] }) y) where
  fresh : Whole (record { manager = o.manager; log = [] })
  unfolding cap_sum
  fresh =
      let none = sym (ap (λ (x : Opened). x.number) p.1) ∙ zero in
      rw p.1
      (record {
        ok = opened-keeps h w rates m delays k rate-size delay-size none;
        edition = opened-edition h w rates m delays k rate-size delay-size none ∙ two;
        exactly = opened-exactly h w rates m delays k rate-size delay-size none;
        time = omega (arith, opened-time h w rates m delays k rate-size delay-size none);
      })

  pub second-after : (Exactly (rates_of y.manager.contact) (listed y.manager.free))
      × (y.manager.room.0 ≡ listed_capacity (rates_of y.manager.contact) (listed y.manager.free))
      × (y.manager.room.0 + carried y ≡ total_in y.manager.contact)
  second-after =
      let q : Whole y = run-whole _ y fresh runs in
      let three = demand-3 h w rates m delays k o y rate-size delay-size p zero runs in
      let c = y.manager.contact in
      let e = held-sum (rates_of c) c.window y.log three.inside three.apart in
      let room = room-exactly y.manager q.ok q.exactly in
      (q.exactly, room, omega (arith, room, e, q.time))
