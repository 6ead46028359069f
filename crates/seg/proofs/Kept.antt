-- A record that an accepted opening or booking hands back keeps the record rules; a refused booking hands back the one that came.
use Prim.Native.Nat.{ℕ, ◌<◌, ◌≤◌}
use mathlib.Core.Bool.{Bool, true, false}
use mathlib.Core.Path.{◌≡◌, refl, sym, ap, ◌∙◌}
use mathlib.Core.List.{List, [], ◌∷◌}
use mathlib.Core.Logic.{⊎_elim, ◌⊎◌, inl, inr}
use native.Mathlib.Nat.{add-zero}
use native.Mathlib.Omega.{arith}
use lib.Dec.{eqb}
use lib.ListN.{length, take}
use borrow.Author.Tests.{eqb-true, eqb-false}
use Rattle.units.specs.Limits.{segments_max, listed_max}
use Rattle.units.specs.declared.Date.{Date}
use Rattle.units.specs.declared.Interval.{Interval}
use Rattle.units.specs.declared.TxData.{TxData}
use Rattle.units.specs.declared.Bundle.{Bundle}
use Rattle.units.specs.Logic.{unless}
use Rattle.units.specs.Strict.{forbids}
use Rattle.units.specs.Granted.{refusal_of}
use Rattle.units.proofs.Numbers.{eq-or-ne}
use Rattle.units.proofs.Loads.{asked-load, load}
use Rattle.units.proofs.Booking.{refusal-none}
use Rattle.segmentation.specs.declared.RateSegment.{RateSegment}
use Rattle.segmentation.specs.declared.DelaySegment.{DelaySegment}
use Rattle.segmentation.specs.Capacity.{capacity, top_of}
use Rattle.segmentation.proofs.Capacity.{total-is}
use Rattle.contact.specs.declared.Choices.{Choices}
use Rattle.contact.specs.declared.Opened.{Opened as ContactOpened}
use Rattle.contact.specs.Record.{contact_ok, rates_of, edition_of, strict_of}
use Rattle.contact.specs.Open.{total_of, contact_of, open_contact}
use Rattle.contact.proofs.Sound.{sound}
use Rattle.contact.proofs.Fresh.{opened-ok, opened-total}
use Rattle.contact.proofs.Refusals.{opened-is}
use Rattle.free_list.specs.Offer.{fit_at}
use Rattle.free_list.specs.Cut.{listed, list_in, cut_of, list_cut, whole_window}
use Rattle.free_list.specs.Room.{room_of}
use Rattle.free_list.proofs.ListedLaws.{Listed}
use Rattle.free_list.proofs.Offered.{offered-at}
use Rattle.free_list.proofs.CutLaws.{cut-some, cut-listed}
use Rattle.free_list.proofs.CutList.{listed_in, kept_in, cut-number, cut-refused, cut-few, cut_list}
use Rattle.seg.specs.declared.FreeVolume.{FreeVolume}
use Rattle.seg.specs.declared.Opened.{Opened}
use Rattle.seg.specs.declared.Booked.{Booked}
use Rattle.seg.specs.Record.{record_ok, with_free}
use Rattle.seg.specs.Open.{refused_opening, whole_of, open_of}
use Rattle.seg.specs.DryRun.{found_of}
use Rattle.seg.specs.Book.{book_of, refused_booking, cut_free}
use Rattle.seg.specs.Granted.{chosen_of, booked_by}
use Rattle.seg.proofs.Facts.{facts, record-kept, own-list, found-offered}
use Rattle.seg.proofs.Calls.{chosen-refused, chosen-fits, chosen-found, chosen-done}

-- The opening.
-- the room of the whole window is its volume
pub whole_room : (w : Interval) (total : ℕ) → room_of (listed (list_in (whole_window w total ∷ []))) ≡ total
unfolding room_of
whole_room w total = ap room_of (listed_in (whole_window w total ∷ [])) ∙ add-zero total

abbrev done_of : Interval → ContactOpened → Opened
done_of w o =
    record { number = 0; manager = whole_of o.contact w o.total.0 }

zero-go : (w : Interval) (o : ContactOpened) (c : Bool) → eqb o.number 0 ≡ c → (unless c (refused_opening o.number) (done_of w o)).number ≡ 0
    → (o.number ≡ 0) × (unless c (refused_opening o.number) (done_of w o) ≡ done_of w o)
zero-go w o true e h = (eqb-true _ _ e, refl)
zero-go w o false e h = absurd (eqb-false _ _ e h)

module _ (h : Choices) (w : Interval) (rates : List RateSegment) (m : ℕ) (delays : List DelaySegment) (k : ℕ)
    (rate-size : length rates ≡ segments_max) (delay-size : length delays ≡ segments_max) (zero : (open_of h w rates m delays k).number ≡ 0) where
  -- what an accepted opening hands back
  pub opened-manager : ((open_contact h w rates m delays k).number ≡ 0)
      × ((open_of h w rates m delays k).manager
      ≡ whole_of (contact_of h w rates m delays k) w (total_of (take m rates)))
  unfolding open_of
  opened-manager =
      let z = zero-go w (open_contact h w rates m delays k) (eqb (open_contact h w rates m delays k).number 0) refl zero in
      (z.0, ap (λ (x : Opened). x.manager) z.1 ∙ ap (λ (o : ContactOpened). (done_of w o).manager) (opened-is h w rates m delays k z.0).0)

  pub opened-contact : contact_ok (contact_of h w rates m delays k) ≡ true
  opened-contact =
      let z = opened-manager.0 in
      sym (ap (λ (o : ContactOpened). contact_ok o.contact) (opened-is h w rates m delays k z).0) ∙ opened-ok h w rates m delays k rate-size delay-size z

  -- the total volume is the exact capacity of the window
  pub opened-full : total_of (take m rates) ≡ capacity (rates_of (contact_of h w rates m delays k)) w.start.0 w.end.0
  opened-full =
      let l = rates_of (contact_of h w rates m delays k) in
      let q = sound (contact_of h w rates m delays k) opened-contact in
      opened-total h w rates m delays k rate-size opened-manager.0 ∙ total-is l w.start.0 q.run ∙ ap (capacity l w.start.0) q.close

  pub opened-keeps : record_ok (open_of h w rates m delays k).manager ≡ true
  unfolding Listed
  opened-keeps =
      let l = rates_of (contact_of h w rates m delays k) in
      let q = sound (contact_of h w rates m delays k) opened-contact in
      let full = opened-full in
      rw opened-manager.1
      (record-kept _ opened-contact
      (kept_in l w.start.0 w.end.0 (whole_window w (total_of (take m rates)) ∷ []) (omega arith) (omega arith)
      (omega arith, omega (arith, q.some), omega arith, omega arith, tt))
      (sym (whole_room w (total_of (take m rates)))))

-- The booking.
pub record Refused (r : FreeVolume) (a : Booked) : Type 0 where
  pub number : a.number ≡ 0 → ⊥
  pub same : a.manager ≡ r

pub record Accepted (r : FreeVolume) (at : Date) (b : Bundle) (d : TxData) (a : Booked) : Type 0 where
  pub some : 0 < b.size.0
  pub place : ℕ
  pub found : found_of r at.0 b.size.0 ≡ fit_at place d.send
  pub allowed : forbids (strict_of r.contact) d.send ≡ false
  pub few : length (cut_of (edition_of r.contact) (rates_of r.contact) (listed r.free) place d.send.start.0 d.send.end.0 b.size.0) ≤ listed_max
  pub number : a.number ≡ 0
  pub manager : a.manager
      ≡ with_free r (list_in (cut_of (edition_of r.contact) (rates_of r.contact) (listed r.free) place d.send.start.0 d.send.end.0 b.size.0))

refuse : (n : ℕ) (r : FreeVolume) (a : Booked) → (n ≡ 0 → ⊥) → a ≡ refused_booking n r → Refused r a
refuse n r a h e = record { number = λ z. h (sym (ap (λ (x : Booked). x.number) e) ∙ z); same = ap (λ (x : Booked). x.manager) e }

module _ (r : FreeVolume) (at : Date) (b : Bundle) (d : TxData) (ok : record_ok r ≡ true) where
  abbrev booked : Booked
  booked = book_of r at b d

  at_place : refusal_of (strict_of r.contact) (chosen_of r at b).offer d ≡ 0 → (Refused r booked) ⊎ (Accepted r at b d booked)
  at_place none =
      let v = b.size.0 in
      let n = edition_of r.contact in
      let l = rates_of r.contact in
      let i = (chosen_of r at b).place in
      let is : booked ≡ booked_by r (cut_free r i d.send v) = (chosen-done r at b ok d none).0 in
      ⊎_elim
      (λ (z : (list_cut n l r.free i d.send.start.0 d.send.end.0 v).number ≡ 0).
      inr (record {
        some = (load b (asked-load at b (chosen-fits r at b ok d none))).some;
        place = i;
        found = chosen-found r at b ok d none;
        allowed = (refusal-none _ _ d none).1;
        few = cut-few n l r.free i d.send.start.0 d.send.end.0 v z;
        number = ap (λ (x : Booked). x.number) is ∙ z;
        manager = ap (λ (x : Booked). x.manager) is ∙ ap (with_free r) (cut_list n l r.free i d.send.start.0 d.send.end.0 v z);
      }))
      (λ (z : (list_cut n l r.free i d.send.start.0 d.send.end.0 v).number ≡ 10).
      inl (record {
        number = λ y. omega (arith, y, z, ap (λ (x : Booked). x.number) is);
        same = ap (λ (x : Booked). x.manager) is ∙ ap (with_free r) (cut-refused n l r.free i d.send.start.0 d.send.end.0 v (λ y. omega arith)) ∙ own-list r (facts r ok);
      }))
      (cut-number n l r.free i d.send.start.0 d.send.end.0 v)

  -- a booking is refused, and the record is the one that came; or the offer is cut out of the free list
  pub book-cases : (Refused r booked) ⊎ (Accepted r at b d booked)
  book-cases =
      ⊎_elim
      at_place
      (λ (some : refusal_of (strict_of r.contact) (chosen_of r at b).offer d ≡ 0 → ⊥). inl (refuse _ r booked some (chosen-refused r at b ok d some)))
      (eq-or-ne (refusal_of (strict_of r.contact) (chosen_of r at b).offer d) 0)

  -- no call ever meets refusal 1 after a fresh opening
  pub book-keeps : record_ok booked.manager ≡ true
  book-keeps =
      ⊎_elim
      (λ (x : Refused r booked). rw x.same ok)
      (λ (x : Accepted r at b d booked).
      let q = facts r ok in
      let n = edition_of r.contact in
      let l = rates_of r.contact in
      let o = found-offered r q at.0 b.size.0 x.some x.place d.send x.found in
      let at-list = (offered-at n l (top_of l) (listed r.free) x.place _ _ _ o).0 in
      let some = cut-some n l (top_of l) r.contact.window.end.0 d.send.start.0 d.send.end.0 b.size.0 (listed r.free) x.place (omega (arith, at-list)) in
      let rules = cut-listed n l (top_of l) r.contact.window.end.0 d.send.start.0 d.send.end.0 b.size.0 (listed r.free) _ x.place q.free o in
      rw x.manager (record-kept _ q.test (kept_in l _ _ _ some x.few rules) refl))
      book-cases
