-- What a cut where the list stands makes of a booking of the free-volume manager, done or refused: its number, the record, and the room of its list.
use Prim.Native.Nat.{ℕ, ◌+◌, ◌-◌, ◌<◌, ◌≤◌, ◌^◌}
use mathlib.Core.Bool.{true}
use mathlib.Core.Path.{◌≡◌, sym, ap, ◌∙◌}
use lib.ListN.{length}
use Rattle.std.specs.Prelude.{Ok, Err}
use Rattle.units.specs.Limits.{listed_max}
use Rattle.units.specs.declared.Date.{Date}
use Rattle.units.specs.declared.TxData.{TxData}
use Rattle.units.specs.declared.Bundle.{Bundle}
use Rattle.units.specs.declared.refusal.Refusal.{Refusal}
use Rattle.units.specs.Refusal.{number_of}
use Rattle.units.specs.Granted.{refusal_of}
use Rattle.contact.specs.Record.{strict_of}
use Rattle.free_list.specs.declared.FreeList.{FreeList}
use Rattle.free_list.specs.declared.Cut.{Cut}
use Rattle.free_list.specs.declared.place.Change.{Change}
use Rattle.free_list.specs.Cut.{listed}
use Rattle.free_list.specs.Room.{room_of}
use Rattle.free_list.specs.Granted.{Changes, cut_in}
use Rattle.free_list.proofs.CutList.{cut-refused}
use Rattle.free_list.proofs.CutRoom.{cut-changes, changed-asks}
use Rattle.seg.specs.declared.FreeVolume.{FreeVolume}
use Rattle.seg.specs.declared.Booked.{Booked}
use Rattle.seg.specs.Record.{record_ok, with_free}
use Rattle.seg.specs.Book.{book_of, cut_free}
use Rattle.seg.specs.Granted.{chosen_of, booked_by}
use Rattle.seg.proofs.RoomBounds.{cut-roomy}
use Rattle.seg.proofs.Calls.{chosen-done}
use Rattle.howrekano.proofs.Refusals.{refused-some}

-- what is left: the number, the list, and the room
pub record Left (r : FreeVolume) (x : Booked) (n : ℕ) (f : FreeList) (m : ℕ) : Type 0 where
  pub number : n ≡ x.number
  pub manager : with_free r f ≡ x.manager
  pub room : m ≡ room_of (listed f)

module _ (r : FreeVolume) (at : Date) (b : Bundle) (d : TxData) (ok : record_ok r ≡ true) (size : length r.free.segments ≡ listed_max)
    (none : refusal_of (strict_of r.contact) (chosen_of r at b).offer d ≡ 0) (room : ℕ) (held : room ≡ r.room.0) (f : FreeList) where
  abbrev cut : Cut
  cut = cut_free r (chosen_of r at b).place d.send b.size.0

  booked : book_of r at b d ≡ booked_by r cut
  booked = (chosen-done r at b ok d none).0

  module _ (x : Change) (is : cut_in f (Ok x) ≡ cut) where
    changes : Changes room (cut_in f (Ok x))
    changes = rw (held, is) (cut-changes _ _ _ _ _ _ _ _ size (chosen-done r at b ok d none).1 (cut-roomy r ok _ _ _))

    pub change-asks : (x.off.0 ≤ room) × (room - x.off.0 + x.on.0 < 2 ^ 64)
    change-asks = changed-asks room (cut_in f (Ok x)) changes

    pub left-done : (n : ℕ) → n ≡ room - x.off.0 + x.on.0 → Left r (book_of r at b d) 0 f n
    left-done n e = rw booked (record { number = ap (λ (y : Cut). y.number) is; manager = ap (λ (y : Cut). with_free r y.list) is; room = e ∙ changes.is })

  module _ (e : Refusal) (is : cut_in f (Err e) ≡ cut) where
    same : f ≡ r.free
    same =
        ap (λ (y : Cut). y.list) is
        ∙ cut-refused _ _ r.free _ _ _ _ (λ z. refused-some e (ap (λ (y : Cut). y.number) is ∙ z))

    pub left-full : room_of (listed r.free) ≡ r.room.0 → Left r (book_of r at b d) (number_of e) f room
    left-full own =
        rw booked
        (record {
          number = ap (λ (y : Cut). y.number) is;
          manager = ap (λ (y : Cut). with_free r y.list) is;
          room = held ∙ sym own ∙ ap (λ (l : FreeList). room_of (listed l)) (sym same);
        })
