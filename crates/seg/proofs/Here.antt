-- A booking where the record stands: refused by what is chosen, done, or refused by a full list, what is left there is what a booking hands back.
use Prim.Native.Nat.{ℕ, ◌+◌, ◌-◌, ◌<◌, ◌≤◌, ◌^◌}
use mathlib.Core.Bool.{true}
use mathlib.Core.Path.{◌≡◌, sym, ap, ◌∙◌}
use lib.ListN.{length}
use borrow.Author.Tests.{eq-eqb}
use Rattle.std.specs.Prelude.{Ok, Err}
use Rattle.units.specs.Limits.{listed_max}
use Rattle.units.specs.declared.Date.{Date}
use Rattle.units.specs.declared.Volume.{Volume}
use Rattle.units.specs.declared.TxData.{TxData}
use Rattle.units.specs.declared.Bundle.{Bundle}
use Rattle.units.specs.declared.refusal.Refusal.{Refusal}
use Rattle.units.specs.Refusal.{number_of}
use Rattle.units.specs.Granted.{refusal_of}
use Rattle.units.proofs.Logic.{no_both}
use Rattle.contact.specs.Record.{strict_of}
use Rattle.contact.proofs.Refusals.{refusal-some}
use Rattle.free_list.specs.declared.FreeList.{FreeList}
use Rattle.free_list.specs.declared.Chosen.{Chosen}
use Rattle.free_list.specs.declared.Cut.{Cut}
use Rattle.free_list.specs.declared.place.Change.{Change}
use Rattle.free_list.specs.Cut.{listed}
use Rattle.free_list.specs.Room.{room_of}
use Rattle.free_list.specs.Granted.{Inside, Changes, cut_in}
use Rattle.free_list.proofs.CutList.{cut-refused}
use Rattle.free_list.proofs.CutRoom.{cut-changes, changed-asks}
use Rattle.seg.specs.declared.FreeVolume.{FreeVolume}
use Rattle.seg.specs.declared.Booked.{Booked}
use Rattle.seg.specs.Record.{record_ok, with_left}
use Rattle.seg.specs.Book.{book_of, refused_booking, cut_free}
use Rattle.seg.specs.Granted.{chosen_of, booked_by, left_by}
use Rattle.seg.proofs.Facts.{facts, left_is}
use Rattle.seg.proofs.RoomBounds.{cut-roomy}
use Rattle.seg.proofs.Calls.{chosen-refused, chosen-done}

-- a refusal's number is not 0
refused-some : (e : Refusal) → number_of e ≡ 0 → ⊥
refused-some e h = no_both (eq-eqb _ _ h) (refusal-some e)

module _ (r : FreeVolume) (at : Date) (b : Bundle) (d : TxData) (ok : record_ok r ≡ true) where
  -- what is chosen is refused by
  module _ (o : Chosen) (is : o ≡ chosen_of r at b) where
    as-chosen : {n : ℕ} → n ≡ refusal_of (strict_of r.contact) o.offer d → n ≡ refusal_of (strict_of r.contact) (chosen_of r at b).offer d
    as-chosen h = h ∙ ap (λ (x : Chosen). refusal_of (strict_of r.contact) x.offer d) is

    pub check-done : 0 ≡ refusal_of (strict_of r.contact) o.offer d → refusal_of (strict_of r.contact) (chosen_of r at b).offer d ≡ 0
    check-done h = sym (as-chosen h)

    pub check-refused : (e : Refusal) → number_of e ≡ refusal_of (strict_of r.contact) o.offer d → left_by r (Err e) ≡ book_of r at b d
    check-refused e h =
        let told = as-chosen h in
        ap (λ (n : ℕ). refused_booking n r) told ∙ sym (chosen-refused r at b ok d (λ z. refused-some e (told ∙ z)))

  module _ (none : refusal_of (strict_of r.contact) (chosen_of r at b).offer d ≡ 0) where
    pub here-inside : Inside r.free (chosen_of r at b).place b.size.0
    here-inside = (chosen-done r at b ok d none).1

    abbrev cut : Cut
    cut = cut_free r (chosen_of r at b).place d.send b.size.0

    booked : book_of r at b d ≡ booked_by r cut
    booked = (chosen-done r at b ok d none).0

    -- what the cut leaves where the list stands
    module _ (f : FreeList) where
      -- done: the room after it is that of the list that is left
      module _ (size : length r.free.segments ≡ listed_max) (x : Change) (is : cut_in f (Ok x) ≡ cut) where
        changes : Changes r.room.0 (cut_in f (Ok x))
        changes = rw is (cut-changes _ _ _ _ _ _ _ _ size here-inside (cut-roomy r ok _ _ _))

        pub change-asks : (x.off.0 ≤ r.room.0) × (r.room.0 - x.off.0 + x.on.0 < 2 ^ 64)
        change-asks = changed-asks r.room.0 (cut_in f (Ok x)) changes

        pub here-done : (n : Volume) → n.0 ≡ r.room.0 - x.off.0 + x.on.0 → left_by (with_left r f n) (Ok tt) ≡ book_of r at b d
        here-done n e =
            ap {B = Booked} (λ (m : FreeVolume). record { number = 0; manager = m }) (left_is r (cut_in f (Ok x)) n changes e) ∙ ap (booked_by r) is ∙ sym booked

      -- refused: the list is the one that came
      module _ (e : Refusal) (is : cut_in f (Err e) ≡ cut) where
        same : f ≡ r.free
        same = ap (λ (y : Cut). y.list) is ∙ cut-refused _ _ r.free _ _ _ _ (λ z. refused-some e (ap (λ (y : Cut). y.number) is ∙ z))

        pub here-full : left_by (with_left r f r.room) (Err e) ≡ book_of r at b d
        here-full =
            ap {B = Booked} (λ (n : ℕ). record { number = number_of e; manager = with_left r f (record { 0 = n }) }) ((facts r ok).room ∙ ap (λ (l : FreeList). room_of (listed l)) (sym same))
            ∙ ap (booked_by r) is
            ∙ sym booked
