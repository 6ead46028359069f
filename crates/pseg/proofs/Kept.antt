-- A record that an accepted opening or booking hands back keeps the record rules; a refused booking hands back the one that came.
use Prim.Native.Nat.{ℕ, ◌+◌, ◌<◌, ◌≤◌}
use mathlib.Core.Bool.{true, false}
use mathlib.Core.Path.{◌≡◌, refl, sym, ap, ◌∙◌}
use mathlib.Core.List.{List, [], ◌∷◌}
use mathlib.Core.Logic.{⊎_elim, ◌⊎◌, inl, inr}
use native.Mathlib.Omega.{arith}
use lib.Dec.{eqb}
use lib.ListN.{length}
use borrow.Author.Tests.{eqb-true, eqb-false}
use Rattle.units.specs.Limits.{segments_max, listed_max}
use Rattle.units.specs.declared.Date.{Date}
use Rattle.units.specs.declared.Interval.{Interval}
use Rattle.units.specs.declared.TxData.{TxData}
use Rattle.units.specs.declared.Bundle.{Bundle}
use Rattle.units.specs.Strict.{forbids}
use Rattle.units.specs.Granted.{refusal_of}
use Rattle.units.proofs.Logic.{unless-keeps}
use Rattle.units.proofs.Loads.{asked-load, load}
use Rattle.units.proofs.Booking.{refusal-none}
use Rattle.units.proofs.Numbers.{le-or-lt, eq-or-ne}
use Rattle.segmentation.specs.declared.RateSegment.{RateSegment}
use Rattle.segmentation.specs.declared.DelaySegment.{DelaySegment}
use Rattle.contact.specs.declared.Choices.{Choices}
use Rattle.contact.specs.declared.Opened.{Opened as ContactOpened}
use Rattle.contact.specs.Record.{contact_ok, strict_of}
use Rattle.contact.specs.Open.{contact_of, open_contact}
use Rattle.contact.proofs.Sound.{sound}
use Rattle.contact.proofs.Fresh.{opened-ok}
use Rattle.contact.proofs.Refusals.{opened-is}
use Rattle.bookings.specs.declared.BookingSegment.{BookingSegment}
use Rattle.std.specs.declared.ops.ControlFlow.TheVariants.{Break}
use Rattle.bookings.specs.declared.Set.{Set}
use Rattle.bookings.specs.Listed.{level_max, level_at, listed}
use Rattle.bookings.specs.Cut.{set_of, list_in}
use Rattle.units.specs.declared.refusal.Refusal.TheVariants.{Full}
use Rattle.bookings.proofs.CoverLaws.{Cover, cover-true}
use Rattle.bookings.proofs.CutLoop.{listed_in, set_full, set-fits}
use Rattle.bookings.proofs.SetLaws.{set-cover, set-some}
use Rattle.bookings.proofs.Instants.{set-sent, set_other}
use Rattle.pseg.specs.declared.PrioritySeg.{PrioritySeg}
use Rattle.pseg.specs.declared.Opened.{Opened}
use Rattle.pseg.specs.declared.Booked.{Booked}
use Rattle.pseg.specs.Record.{record_ok}
use Rattle.pseg.specs.Open.{whole_window, refused_opening, opened_of, open_of}
use Rattle.pseg.specs.DryRun.{dry_run_of, run_of}
use Rattle.pseg.specs.Book.{book_of, refused_booking}
use Rattle.pseg.proofs.Facts.{facts, record-kept, cover-some, found-ends}
use Rattle.pseg.proofs.ByDryRun.{dry-refused, dry-bundled, dry-found, dry-done}

-- The opening.
abbrev done_of : Interval → ContactOpened → Opened
done_of w o = record { number = 0; manager = record { contact = o.contact; bookings = list_in (whole_window w ∷ []) } }

zero-go : (w : Interval) (o : ContactOpened) → (opened_of w o).number ≡ 0 → (o.number ≡ 0) × (opened_of w o ≡ done_of w o)
zero-go w o =
    unless-keeps (λ (x : Opened). x.number ≡ 0 → (o.number ≡ 0) × (x ≡ done_of w o)) (eqb o.number 0) (refused_opening o.number) (done_of w o)
    (λ f z. absurd (eqb-false _ _ f z))
    (λ t z. (eqb-true _ _ t, refl))

module _ (h : Choices) (w : Interval) (rates : List RateSegment) (m : ℕ) (delays : List DelaySegment) (k : ℕ) (zero : (open_of h w rates m delays k).number ≡ 0) where
  -- what an accepted opening hands back
  pub opened-manager : ((open_contact h w rates m delays k).number ≡ 0)
      × ((open_of h w rates m delays k).manager ≡ record { contact = contact_of h w rates m delays k; bookings = list_in (whole_window w ∷ []) })
  unfolding open_of
  opened-manager =
      let z = zero-go w (open_contact h w rates m delays k) zero in
      (z.0, ap (λ (x : Opened). x.manager) z.1 ∙ ap (λ (o : ContactOpened). (done_of w o).manager) (opened-is h w rates m delays k z.0).0)

  module _ (rate-size : length rates ≡ segments_max) (delay-size : length delays ≡ segments_max) where
    pub opened-contact : contact_ok (contact_of h w rates m delays k) ≡ true
    opened-contact =
        let z = opened-manager.0 in
        sym (ap (λ (o : ContactOpened). contact_ok o.contact) (opened-is h w rates m delays k z).0) ∙ opened-ok h w rates m delays k rate-size delay-size z

    pub opened-keeps : record_ok (open_of h w rates m delays k).manager ≡ true
    unfolding Cover
    opened-keeps =
        let c = contact_of h w rates m delays k in
        let cover = cover-true w.start.0 w.end.0 (whole_window w ∷ []) (refl, omega (arith, (sound c opened-contact).some), omega arith, refl) in
        rw opened-manager.1 (record-kept c (whole_window w ∷ []) opened-contact (omega arith) (omega arith) cover)

-- The booking.
pub record Refused (r : PrioritySeg) (a : Booked) : Type 0 where
  pub number : a.number ≡ 0 → ⊥
  pub same : a.manager ≡ r

-- the listed segments with the send interval set to the priority's level
abbrev pub set_listed : PrioritySeg → Bundle → TxData → List BookingSegment
set_listed r b d = set_of d.send.start.0 d.send.end.0 (b.priority.0 + 1) (listed r.bookings)

pub record Accepted (r : PrioritySeg) (at : Date) (b : Bundle) (d : TxData) (a : Booked) : Type 0 where
  pub some : 0 < b.size.0
  pub level : b.priority.0 + 1 ≤ level_max
  pub found : run_of r at.0 b ≡ Break d.send
  pub allowed : forbids (strict_of r.contact) d.send ≡ false
  pub few : length (set_listed r b d) ≤ listed_max
  pub number : a.number ≡ 0
  pub manager : a.manager ≡ record { contact = r.contact; bookings = list_in (set_listed r b d) }

refuse : (n : ℕ) (r : PrioritySeg) (a : Booked) → (n ≡ 0 → ⊥) → a ≡ refused_booking n r → Refused r a
refuse n r a h e = record { number = λ z. h (sym (ap (λ (x : Booked). x.number) e) ∙ z); same = ap (λ (x : Booked). x.manager) e }

module _ (r : PrioritySeg) (at : Date) (b : Bundle) (d : TxData) (ok : record_ok r ≡ true) where
  abbrev booked : Booked
  booked = book_of r at b d

  abbrev booked_by : Set → Booked
  booked_by x = record { number = x.number; manager = record { contact = r.contact; bookings = x.bookings } }

  module _ (none : refusal_of (strict_of r.contact) (dry_run_of r at b) d ≡ 0) where
    done-go : (Refused r booked) ⊎ (Accepted r at b d booked)
    done-go =
        let list = set_listed r b d in
        let l = load b (asked-load at b (dry-bundled r at b d ok none)) in
        let is = (dry-done r at b d ok none).0 in
        ⊎_elim
        (λ (few : length list ≤ listed_max).
        let done = is ∙ sym (ap booked_by (set-fits r.bookings d.send.start.0 d.send.end.0 (b.priority.0 + 1) (list_in list) few refl)) in
        inr (record {
          some = l.some;
          level = omega (arith, l.priority);
          found = dry-found r at b d ok none;
          allowed = (refusal-none _ _ d none).1;
          few = few;
          number = ap (λ (x : Booked). x.number) done;
          manager = ap (λ (x : Booked). x.manager) done;
        }))
        (λ (many : listed_max < length list).
        let full = sym (ap booked_by (set_full r.bookings d.send.start.0 d.send.end.0 (b.priority.0 + 1) Full many refl)) in
        inl (refuse 10 r booked (λ z. omega arith) (is ∙ full)))
        (le-or-lt (length list) listed_max)

  -- a booking is refused, and the record is the one that came; or the send interval is set to the priority's level
  pub book-cases : (Refused r booked) ⊎ (Accepted r at b d booked)
  book-cases =
      let n = refusal_of (strict_of r.contact) (dry_run_of r at b) d in
      ⊎_elim
      (λ (none : n ≡ 0). done-go none)
      (λ (some : n ≡ 0 → ⊥). inl (refuse n r booked some (dry-refused r at b d ok some)))
      (eq-or-ne n 0)

  -- no call ever meets refusal 1 after a fresh opening
  pub book-keeps : record_ok booked.manager ≡ true
  book-keeps =
      ⊎_elim
      (λ (x : Refused r booked). rw x.same ok)
      (λ (x : Accepted r at b d booked).
      let q = facts r ok in
      let s = d.send.start.0 in
      let e = d.send.end.0 in
      let ends = found-ends r q at.0 b d.send x.found x.some in
      let some = set-some s e (b.priority.0 + 1) (listed r.bookings) (cover-some _ _ (listed r.bookings) q.contact.some q.cover) in
      let cover = set-cover s e (b.priority.0 + 1) ends.forth x.level _ _ (listed r.bookings) q.cover in
      rw x.manager (record-kept r.contact (set_listed r b d) q.test some x.few cover))
      book-cases

  module _ (zero : (book_of r at b d).number ≡ 0) where
    pub book-accepted : Accepted r at b d booked
    book-accepted = ⊎_elim (λ (x : Refused r booked). absurd (x.number zero)) (λ (x : Accepted r at b d booked). x) book-cases

    booked-list : listed booked.manager.bookings ≡ set_listed r b d
    booked-list = ap (λ (m : PrioritySeg). listed m.bookings) book-accepted.manager ∙ listed_in (set_listed r b d)

    -- an accepted booking tick by tick: in the send interval the priority's level, everywhere else in the window the old one
    pub booked-instants : (t : ℕ) → r.contact.window.start.0 ≤ t → t < r.contact.window.end.0
        → (d.send.start.0 ≤ t → t < d.send.end.0 → level_at (listed (book_of r at b d).manager.bookings) t ≡ b.priority.0 + 1)
        × ((t < d.send.start.0) ⊎ (d.send.end.0 ≤ t) → level_at (listed (book_of r at b d).manager.bookings) t ≡ level_at (listed r.bookings) t)
    booked-instants t from to =
        let q = facts r ok in
        let s = d.send.start.0 in
        let e = d.send.end.0 in
        let order = (found-ends r q at.0 b d.send book-accepted.found book-accepted.some).forth in
        let is = ap (λ (f : List BookingSegment). level_at f t) booked-list in (
          λ h k. is ∙ set-sent s e (b.priority.0 + 1) order t _ _ (listed r.bookings) q.cover from to h k,
          λ z. is ∙ set_other s e (b.priority.0 + 1) order t _ _ (listed r.bookings) q.cover from to z,
        )
