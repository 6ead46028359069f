-- Edition 2 at the record: an offer has a length, and from a fresh opening on every listed volume is the exact capacity of its segment.
use Prim.Native.Nat.{ℕ, ◌+◌, ◌<◌}
use mathlib.Core.Bool.{true}
use mathlib.Core.Path.{◌≡◌, refl}
use mathlib.Core.List.{List, [], ◌∷◌}
use mathlib.Core.Logic.{⊎_elim}
use native.Mathlib.Omega.{arith}
use lib.ListN.{length, take}
use Rattle.units.specs.Limits.{segments_max, bundle_ok}
use Rattle.units.specs.declared.Date.{Date}
use Rattle.units.specs.declared.Interval.{Interval}
use Rattle.units.specs.declared.TxData.{TxData}
use Rattle.units.specs.declared.Bundle.{Bundle}
use Rattle.units.specs.declared.Offer.{Offer}
use Rattle.units.proofs.Loads.{asked-load, load}
use Rattle.units.proofs.Booking.{offer-keeps}
use Rattle.segmentation.specs.declared.RateSegment.{RateSegment}
use Rattle.segmentation.specs.declared.DelaySegment.{DelaySegment}
use Rattle.segmentation.specs.Capacity.{capacity}
use Rattle.segmentation.proofs.EndLaws.{end_after}
use Rattle.contact.specs.declared.Choices.{Choices}
use Rattle.contact.specs.Open.{total_of, contact_of}
use Rattle.contact.specs.Record.{rates_of, edition_of, end_rule, total_in}
use Rattle.contact.proofs.Sound.{sound}
use Rattle.contact.proofs.Total.{window-total}
use Rattle.free_list.specs.declared.Fit.{Fit}
use Rattle.std.specs.Prelude.{Option, Some, None}
use Rattle.free_list.specs.Offer.{fit_at}
use Rattle.free_list.specs.Cut.{listed, cut_of, whole_window}
use Rattle.free_list.specs.Room.{listed_capacity, Exactly}
use Rattle.free_list.proofs.Offered.{offer-picked, place-get}
use Rattle.free_list.proofs.CutList.{listed_in}
use Rattle.free_list.proofs.Second.{cut-exactly, exactly-room}
use Rattle.seg.specs.declared.FreeVolume.{FreeVolume}
use Rattle.seg.specs.Record.{record_ok}
use Rattle.seg.specs.Open.{open_of}
use Rattle.seg.specs.DryRun.{found_of, answer_to, dry_run_of}
use Rattle.seg.specs.Book.{book_of}
use Rattle.seg.proofs.Facts.{Facts, facts, found-answers}
use Rattle.seg.proofs.Kept.{opened-manager, opened-contact, opened-full, Refused, Accepted, book-cases}
use Rattle.seg.proofs.RoomBounds.{listed_time, booked-falls}

-- the volumes of a record are exact
abbrev pub ExactlyIn : FreeVolume → Type 0
ExactlyIn r = Exactly (rates_of r.contact) (listed r.free)

pub room-exactly : (r : FreeVolume) → record_ok r ≡ true → ExactlyIn r → r.room.0 ≡ listed_time r
room-exactly r ok q = rw (facts r ok).room (exactly-room _ _ q)

module _ (r : FreeVolume) (q : Facts r) (two : edition_of r.contact ≡ 2) (t v : ℕ) (pos : 0 < v) (i : ℕ) (send : Interval) (h : found_of r t v ≡ fit_at i send) where
  pub found_after : send.start.0 < send.end.0
  found_after =
      let p = place-get _ (listed r.free) i (offer-picked (end_rule r.contact) (rates_of r.contact) r.contact.window.end.0 t v send (listed r.free) _ i q.free h) in
      end_after (rates_of r.contact) send.start.0 v pos (edition_of r.contact) _ send.end p.ends two

-- so an offer has a length: no send of zero length is offered
module _ (r : FreeVolume) (at : Date) (b : Bundle) (two : edition_of r.contact ≡ 2) where
  answer-after : record_ok r ≡ true → bundle_ok at b ≡ true → (f : Option Fit) → found_of r at.0 b.size.0 ≡ f → (answer_to r f).number ≡ 0
      → (answer_to r f).dates.send.start.0 < (answer_to r f).dates.send.end.0
  answer-after ok fits (Some x) e z =
      let q = facts r ok in
      let pos = (load b (asked-load at b fits)).some in
      rw (found-answers r q at.0 b.size.0 pos x.place x.send e).sends (found_after r q two at.0 b.size.0 pos x.place x.send e)
  answer-after ok fits None e z = absurd (omega (arith, z))

  pub offer-after : (dry_run_of r at b).number ≡ 0 → (dry_run_of r at b).dates.send.start.0 < (dry_run_of r at b).dates.send.end.0
  unfolding dry_run_of
  offer-after =
      offer-keeps (λ (o : Offer). o.dates.send.start.0 < o.dates.send.end.0) (record_ok r) (bundle_ok at b) (answer_to r (found_of r at.0 b.size.0)) (λ ok fits z. answer-after ok fits _ refl z)

module _ (h : Choices) (w : Interval) (rates : List RateSegment) (m : ℕ) (delays : List DelaySegment) (k : ℕ)
    (rate-size : length rates ≡ segments_max) (delay-size : length delays ≡ segments_max) (zero : (open_of h w rates m delays k).number ≡ 0) where
  pub opened-exactly : ExactlyIn (open_of h w rates m delays k).manager
  unfolding Exactly
  opened-exactly =
      let o = opened-manager h w rates m delays k rate-size delay-size zero in
      rw (o.1, listed_in (whole_window w (total_of (take m rates)) ∷ [])) (opened-full h w rates m delays k rate-size delay-size zero, tt)

  -- the listed time is the window
  pub opened-time : listed_time (open_of h w rates m delays k).manager ≡ total_in (open_of h w rates m delays k).manager.contact
  unfolding listed_capacity
  opened-time =
      let o = opened-manager h w rates m delays k rate-size delay-size zero in
      let c = contact_of h w rates m delays k in
      rw (o.1, listed_in (whole_window w (total_of (take m rates)) ∷ []))
      (omega (arith, window-total c (sound c (opened-contact h w rates m delays k rate-size delay-size zero))))

  pub opened-edition : edition_of (open_of h w rates m delays k).manager.contact ≡ h.edition.0
  opened-edition = rw (opened-manager h w rates m delays k rate-size delay-size zero).1

module _ (r : FreeVolume) (at : Date) (b : Bundle) (d : TxData) (ok : record_ok r ≡ true) (two : edition_of r.contact ≡ 2) where
  pub booked-exactly : ExactlyIn r → ExactlyIn (book_of r at b d).manager
  booked-exactly q =
      ⊎_elim
      (λ (x : Refused r (book_of r at b d)). rw x.same q)
      (λ (x : Accepted r at b d (book_of r at b d)).
      rw (x.manager, listed_in (cut_of (edition_of r.contact) (rates_of r.contact) (listed r.free) x.place d.send.start.0 d.send.end.0 b.size.0), two)
      (cut-exactly (rates_of r.contact) d.send.start.0 d.send.end.0 b.size.0 (listed r.free) x.place q))
      (book-cases r at b d ok)

  -- an accepted booking has a length, so the exact capacity of the listed time falls by just that of the send interval
  pub booked-time : Accepted r at b d (book_of r at b d)
      → listed_time (book_of r at b d).manager + capacity (rates_of r.contact) d.send.start.0 d.send.end.0 ≡ listed_time r
  booked-time x =
      let after = found_after r (facts r ok) two at.0 b.size.0 x.some x.place d.send x.found in
      (booked-falls r ok at b d x.number).1 (λ y. omega arith)
