-- A record that an accepted opening or booking hands back keeps the record rules; a refused booking hands back the one that came.
use Prim.Native.Nat.{ℕ, ◌≤◌}
use mathlib.Core.Bool.{true}
use mathlib.Core.Path.{◌≡◌, refl, sym, ap, ◌∙◌}
use mathlib.Core.List.{List, [], ◌∷◌}
use mathlib.Core.Logic.{⊎_elim, ◌⊎◌, inl, inr}
use native.Mathlib.Omega.{arith}
use lib.ListN.{length, take, length-take}
use Rattle.units.specs.Limits.{segments_max, listed_max}
use Rattle.units.specs.declared.Date.{Date}
use Rattle.units.specs.declared.Interval.{Interval}
use Rattle.units.specs.declared.TxData.{TxData}
use Rattle.units.specs.declared.Bundle.{Bundle}
use Rattle.units.specs.Logic.{both}
use Rattle.units.specs.Granted.{refusal_of}
use Rattle.units.specs.Arrays.{padded}
use Rattle.units.proofs.Numbers.{eq-or-ne}
use Rattle.units.proofs.Windows.{window}
use Rattle.units.proofs.Arrays.{take-padded, unused-padded}
use Rattle.segmentation.specs.declared.DelaySegment.{DelaySegment}
use Rattle.contact.specs.Segments.{zero_delay, no_delay}
use Rattle.free_list.specs.Offer.{fit_at}
use Rattle.free_list.specs.Cut.{listed, list_in, cut_of, list_cut, whole_window}
use Rattle.free_list.proofs.ListedLaws.{Listed}
use Rattle.free_list.proofs.Offered.{offered-at}
use Rattle.free_list.proofs.CutLaws.{cut-some, cut-listed}
use Rattle.free_list.proofs.CutList.{kept_in, cut-number, cut-refused, cut-few, cut_list}
use Rattle.poly.specs.declared.Polynome.{Polynome}
use Rattle.poly_seg.specs.declared.Choices.{Choices}
use Rattle.poly_seg.specs.declared.PolySeg.{PolySeg}
use Rattle.poly_seg.specs.declared.Opened.{Opened}
use Rattle.poly_seg.specs.declared.Booked.{Booked}
use Rattle.poly_seg.specs.Open.{open_of}
use Rattle.poly_seg.specs.Record.{strict_of, record_ok}
use Rattle.poly_seg.specs.DryRun.{found_of}
use Rattle.poly_seg.specs.Book.{book_of, booked_of, refused_booking, with_free}
use Rattle.poly_seg.specs.Granted.{chosen_of}
use Rattle.poly_seg.proofs.Lookup.{delays-most, by-takes}
use Rattle.poly_seg.proofs.Opening.{Passed, done_of, open_done, open-passed}
use Rattle.poly_seg.proofs.Facts.{facts, record-kept, found-offered}
use Rattle.poly_seg.proofs.Calls.{chosen-refused, chosen-some, chosen-same, chosen-found, chosen-done}

-- The opening.
zero-delay : no_delay zero_delay ≡ true
unfolding no_delay both
zero-delay = refl

-- its tests look at the first places only
passed-takes : (h : Choices) (w : Interval) (p : Polynome) (delays delays' : List DelaySegment) (k : ℕ) → take k delays ≡ take k delays'
    → Passed h w p delays k → Passed h w p delays' k
passed-takes h w p delays delays' k e t =
    record { choices = t.choices; window = t.window; delay = sym (by-takes h.rule.0 w k delays delays' e) ∙ t.delay; polynome = t.polynome }

module _ (h : Choices) (w : Interval) (p : Polynome) (delays : List DelaySegment) (k : ℕ) (delay-size : length delays ≡ segments_max) (zero : (open_of h w p delays k).number ≡ 0) where
  abbrev kept : List DelaySegment
  kept = padded segments_max zero_delay (take k delays)

  -- what an accepted opening hands back
  pub opened-manager : (open_of h w p delays k).manager ≡ (done_of h w p kept k (list_in (whole_window w 0 ∷ []))).manager
  opened-manager = ap (λ (o : Opened). o.manager) (open_done h w p delays k (open-passed h w p delays k zero))

  pub opened-keeps : record_ok (open_of h w p delays k).manager ≡ true
  unfolding Listed
  opened-keeps =
      let t = open-passed h w p delays k zero in
      let most = delays-most h.rule.0 w k delays t.delay in
      let size : length (take k delays) ≡ k = simp length-take (omega arith) in
      let some = (window w t.window).some in
      rw opened-manager
      (record-kept _
      (passed-takes h w p delays kept k (sym (take-padded segments_max zero_delay (take k delays) k size)) t)
      (unused-padded segments_max zero_delay no_delay (take k delays) k size zero-delay)
      (kept_in [] w.start.0 w.end.0 (whole_window w 0 ∷ []) (omega arith) (omega arith)
      (omega arith, omega arith, omega arith, omega arith, tt)))

-- The booking.
pub record Refused (r : PolySeg) (a : Booked) : Type 0 where
  pub number : a.number ≡ 0 → ⊥
  pub same : a.manager ≡ r

pub record Accepted (r : PolySeg) (at : Date) (b : Bundle) (d : TxData) (a : Booked) : Type 0 where
  pub some : 1 ≤ b.size.0
  pub place : ℕ
  pub found : found_of r at.0 b.size.0 ≡ fit_at place d.send
  pub few : length (cut_of 1 [] (listed r.free) place d.send.start.0 d.send.end.0 0) ≤ listed_max
  pub number : a.number ≡ 0
  pub manager : a.manager ≡ with_free r (list_in (cut_of 1 [] (listed r.free) place d.send.start.0 d.send.end.0 0))

refuse : (n : ℕ) (r : PolySeg) (a : Booked) → (n ≡ 0 → ⊥) → a ≡ refused_booking n r → Refused r a
refuse n r a h e = record { number = λ z. h (sym (ap (λ (x : Booked). x.number) e) ∙ z); same = ap (λ (x : Booked). x.manager) e }

module _ (r : PolySeg) (at : Date) (b : Bundle) (d : TxData) (ok : record_ok r ≡ true) where
  abbrev booked : Booked
  booked = book_of r at b d

  at_place : refusal_of (strict_of r) (chosen_of r at b).offer d ≡ 0 → (Refused r booked) ⊎ (Accepted r at b d booked)
  at_place none =
      let i = (chosen_of r at b).place in
      let is : booked ≡ booked_of r i d.send = (chosen-done r at b ok d none).0 in
      ⊎_elim
      (λ (z : (list_cut 1 [] r.free i d.send.start.0 d.send.end.0 0).number ≡ 0).
      inr (record {
        some = chosen-some r at b ok d (chosen-same r at b ok d none);
        place = i;
        found = chosen-found r at b ok d (chosen-same r at b ok d none);
        few = cut-few 1 [] r.free i d.send.start.0 d.send.end.0 0 z;
        number = ap (λ (x : Booked). x.number) is ∙ z;
        manager = ap (λ (x : Booked). x.manager) is ∙ ap (with_free r) (cut_list 1 [] r.free i d.send.start.0 d.send.end.0 0 z);
      }))
      (λ (z : (list_cut 1 [] r.free i d.send.start.0 d.send.end.0 0).number ≡ 10).
      inl (record {
        number = λ y. omega (arith, y, z, ap (λ (x : Booked). x.number) is);
        same = ap (λ (x : Booked). x.manager) is ∙ ap (with_free r) (cut-refused 1 [] r.free i d.send.start.0 d.send.end.0 0 (λ y. omega arith));
      }))
      (cut-number 1 [] r.free i d.send.start.0 d.send.end.0 0)

  -- a booking is refused, and the record is the one that came; or the offer is cut out of the free list
  pub book-cases : (Refused r booked) ⊎ (Accepted r at b d booked)
  book-cases =
      ⊎_elim
      at_place
      (λ (some : refusal_of (strict_of r) (chosen_of r at b).offer d ≡ 0 → ⊥). inl (refuse _ r booked some (chosen-refused r at b ok d some)))
      (eq-or-ne (refusal_of (strict_of r) (chosen_of r at b).offer d) 0)

  -- no call ever meets refusal 1 after a fresh opening
  pub book-keeps : record_ok booked.manager ≡ true
  book-keeps =
      ⊎_elim
      (λ (x : Refused r booked). rw x.same ok)
      (λ (x : Accepted r at b d booked).
      let q = facts r ok in
      let o = found-offered r q at.0 b.size.0 x.some x.place d.send x.found in
      let at-list = (offered-at 1 [] 0 (listed r.free) x.place _ _ _ o).0 in
      let some = cut-some 1 [] 0 r.window.end.0 d.send.start.0 d.send.end.0 0 (listed r.free) x.place (omega (arith, at-list)) in
      let rules = cut-listed 1 [] 0 r.window.end.0 d.send.start.0 d.send.end.0 0 (listed r.free) _ x.place q.free o in
      rw x.manager (record-kept _ q.test q.undelayed (kept_in [] _ _ _ some x.few rules)))
      book-cases
