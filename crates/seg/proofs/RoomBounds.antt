-- What the room means: at most the exact capacity of the listed time, which is at most the window's total volume. A booking may raise the
-- room; the exact capacity of the listed time it never raises.
use Prim.Native.Nat.{ℕ, ◌+◌, ◌≤◌}
use mathlib.Core.Bool.{true}
use mathlib.Core.Path.{◌≡◌, ap, ◌∙◌}
use mathlib.Core.Logic.{⊎_elim}
use native.Mathlib.Omega.{arith}
use Rattle.units.specs.declared.Date.{Date}
use Rattle.units.specs.declared.Interval.{Interval}
use Rattle.units.specs.declared.TxData.{TxData}
use Rattle.units.specs.declared.Bundle.{Bundle}
use Rattle.units.specs.Limits.{volume_max}
use Rattle.segmentation.specs.Capacity.{capacity, top_of}
use Rattle.contact.specs.Record.{edition_of, rates_of, total_in}
use Rattle.contact.proofs.Total.{window-total, span-most}
use Rattle.free_list.specs.Cut.{listed}
use Rattle.free_list.specs.Room.{listed_capacity}
use Rattle.free_list.specs.Granted.{Roomy}
use Rattle.free_list.proofs.RoomLaws.{room-listed, listed-window}
use Rattle.free_list.proofs.CutList.{listed_in}
use Rattle.free_list.proofs.CutRoom.{cut_most, cut-capacity}
use Rattle.seg.specs.declared.FreeVolume.{FreeVolume}
use Rattle.seg.specs.Record.{record_ok}
use Rattle.seg.specs.Book.{book_of}
use Rattle.seg.proofs.Facts.{Facts, facts, found-offered}
use Rattle.seg.proofs.Kept.{Refused, Accepted, book-cases}

-- the exact capacity of a record's listed time
abbrev pub listed_time : FreeVolume → ℕ
listed_time r = listed_capacity (rates_of r.contact) (listed r.free)

module _ (r : FreeVolume) (ok : record_ok r ≡ true) where
  abbrev held : Facts r
  held = facts r ok

  pub room-time : r.room.0 ≤ listed_time r
  room-time = rw held.room (room-listed (rates_of r.contact) _ _ _ held.free)

  pub time-total : listed_time r ≤ total_in r.contact
  time-total = omega (arith, listed-window (rates_of r.contact) _ _ _ held.free, window-total r.contact held.contact)

  pub room_most : r.room.0 ≤ volume_max
  room_most = omega (arith, room-time, time-total, held.contact.total)

  -- so what any cut leaves fits
  pub cut-roomy : (i : ℕ) (send : Interval) (v : ℕ) → Roomy (edition_of r.contact) (rates_of r.contact) r.free i send.start.0 send.end.0 v r.room.0
  cut-roomy i send v =
      let most = cut_most (edition_of r.contact) (rates_of r.contact) send.start.0 send.end.0 v volume_max (span-most r.contact held.contact) r.free i in
      record { is = held.room; small = omega (arith, most, held.room, room_most) }

  -- an accepted booking: the exact capacity of the listed time falls at least by that of the send interval, and by no more if it has a length
  pub booked-falls : (at : Date) (b : Bundle) (d : TxData) → (book_of r at b d).number ≡ 0
      → (listed_time (book_of r at b d).manager + capacity (rates_of r.contact) d.send.start.0 d.send.end.0 ≤ listed_time r)
      × ((d.send.start.0 ≡ d.send.end.0 → ⊥) → listed_time (book_of r at b d).manager + capacity (rates_of r.contact) d.send.start.0 d.send.end.0 ≡ listed_time r)
  booked-falls at b d zero =
      ⊎_elim
      (λ (x : Refused r (book_of r at b d)). absurd (x.number zero))
      (λ (x : Accepted r at b d (book_of r at b d)).
      let l = rates_of r.contact in
      let o = found-offered r held at.0 b.size.0 x.some x.place d.send x.found in
      let is : listed_time (book_of r at b d).manager ≡ _ = ap listed_time x.manager ∙ ap (listed_capacity l) (listed_in _) in
      rw is (cut-capacity (edition_of r.contact) l (top_of l) d.send.start.0 d.send.end.0 b.size.0 (listed r.free) x.place o))
      (book-cases r at b d ok)
