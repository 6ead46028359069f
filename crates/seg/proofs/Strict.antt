-- 02, R-7, of the free-volume manager's promises: every other call answers, and alters the record, as with the flag off; where 17 is out of reach.
use Prim.Native.Nat.{ℕ}
use mathlib.Core.Bool.{true}
use mathlib.Core.Path.{◌≡◌, refl, sym, ap, ◌∙◌}
use mathlib.Core.List.{List}
use native.Mathlib.Omega.{arith}
use lib.Dec.{eqb}
use Rattle.units.specs.declared.Date.{Date}
use Rattle.units.specs.declared.Interval.{Interval}
use Rattle.units.specs.declared.TxData.{TxData}
use Rattle.units.specs.declared.Bundle.{Bundle}
use Rattle.units.specs.Logic.{pick}
use Rattle.units.specs.Limits.{bundle_ok}
use Rattle.units.specs.Answer.{offers}
use Rattle.units.specs.Strict.{forbids}
use Rattle.units.specs.Calls.{Calls}
use Rattle.units.specs.Twin.{Twins}
use Rattle.units.proofs.Logic.{unless-turned}
use Rattle.units.proofs.Determined.{Met}
use Rattle.units.proofs.Forbids.{only-forbidden, never-17}
use Rattle.units.proofs.Twin.{tables-twins}
use Rattle.segmentation.specs.declared.RateSegment.{RateSegment}
use Rattle.segmentation.specs.declared.DelaySegment.{DelaySegment}
use Rattle.contact.specs.declared.Choices.{Choices}
use Rattle.contact.specs.declared.Opened.{Opened as ContactOpened}
use Rattle.contact.specs.Choices.{flagging}
use Rattle.contact.specs.Open.{open_contact}
use Rattle.contact.specs.Record.{edition_of, strict_of}
use Rattle.contact.proofs.Twin.{contact-twin, open-twin as contact-open-twin, managed-twin}
use Rattle.free_list.specs.declared.Fit.{Fit}
use Rattle.std.specs.Prelude.{Option, Some, None}
use Rattle.seg.specs.declared.FreeVolume.{FreeVolume}
use Rattle.seg.specs.declared.Opened.{Opened}
use Rattle.seg.specs.declared.Booked.{Booked}
use Rattle.seg.specs.declared.Listing.{Listing}
use Rattle.seg.specs.declared.RoomLeft.{RoomLeft}
use Rattle.seg.specs.Open.{refused_opening, whole_of, opened_of, open_of}
use Rattle.seg.specs.Record.{free_ok, record_ok}
use Rattle.seg.specs.DryRun.{dry_run_of, found_of, answer_to}
use Rattle.seg.specs.Book.{book_of, booked_at, refused_booking, cut_free}
use Rattle.seg.specs.List.{list_of}
use Rattle.seg.specs.Room.{room_answer}
use Rattle.seg.specs.Strict.{flagged, turned, turned_opening}
use Rattle.seg.proofs.Calls.{booked-number}
use Rattle.seg.proofs.Second.{offer-after}
use Rattle.seg.proofs.FreeVolume.open.Reads as open-reads
use Rattle.seg.proofs.FreeVolume.dry_run.Reads as dry-run-reads
use Rattle.seg.proofs.FreeVolume.book.Reads as book-reads
use Rattle.seg.proofs.FreeVolume.list.Reads as list-reads
use Rattle.seg.proofs.FreeVolume.room.Reads as room-reads

-- the promises of the manager's calls, as src/ has them
abbrev pub promised : Calls
promised =
    record {
      Manager = FreeVolume;
      Booked = Booked;
      Listing = Listing;
      dry_run = λ r at b o. Met (dry-run-reads.Post tt (r, (at, (b, tt)))) o;
      book = λ r at b d a. Met (book-reads.Post tt (r, (at, (b, (d, tt))))) a;
      list = λ r o. Met (list-reads.Post tt (r, tt)) o;
      after = λ (a : Booked). a.manager;
    }

module _ (r : FreeVolume) where
  record-twin : record_ok (flagged 1 r) ≡ record_ok (flagged 0 r)
  unfolding record_ok free_ok
  record-twin = rw (contact-twin r.contact)

  list-twin : list_of (flagged 1 r) ≡ list_of (flagged 0 r)
  unfolding list_of
  list-twin = rw record-twin

  room-twin : room_answer (flagged 1 r) ≡ room_answer (flagged 0 r)
  unfolding room_answer
  room-twin = rw record-twin

  booked-twin : (f : Option Fit) (v : ℕ) → booked_at (flagged 1 r) f v ≡ turned 1 (booked_at (flagged 0 r) f v)
  booked-twin (Some x) v = unless-turned (turned 1) (eqb (cut_free (flagged 0 r) x.place x.send v).number 0) refl refl
  booked-twin None v = refl

  answer-twin : (f : Option Fit) → answer_to (flagged 1 r) f ≡ answer_to (flagged 0 r) f
  answer-twin (Some x) = refl
  answer-twin None = refl

-- 02's sentence
pub strict-twins : Twins promised flagged turned refused_booking
unfolding dry_run_of book_of
strict-twins =
    tables-twins promised flagged turned refused_booking
    (record {
      kept = record_ok;
      strict = λ r. strict_of r.contact;
      answer = λ r at b. answer_to r (found_of r at.0 b.size.0);
      booked = λ r at b. booked_at r (found_of r at.0 b.size.0) b.size.0;
      listing = list_of;
      dry-run-is = λ r at b o p. p.1;
      book-is = λ r at b d a p. p.1;
      list-is = λ r o p. p.1;
      flag = λ n r. refl;
      kept-twin = record-twin;
      answer-twin = λ r at b. answer-twin r (found_of (flagged 0 r) at.0 b.size.0);
      booked-twin = λ r at b. booked-twin r (found_of (flagged 0 r) at.0 b.size.0) b.size.0;
      listing-twin = list-twin;
      refuse-twin = λ n r. refl;
    })

-- of the room
pub room-alike : (r : FreeVolume) (x y : RoomLeft) → Met (room-reads.Post tt (flagged 0 r, tt)) x → Met (room-reads.Post tt (flagged 1 r, tt)) y → y ≡ x
room-alike r x y p q = q.1 ∙ room-twin r ∙ sym p.1

-- and of an opening: a refused one is the same, an accepted one's record differs in the flag alone
module _ (h : Choices) (w : Interval) (rates : List RateSegment) (m : ℕ) (delays : List DelaySegment) (k : ℕ) where
  open-twin : open_of (flagging 1 h) w rates m delays k
      ≡ pick (eqb (open_of (flagging 0 h) w rates m delays k).number 0) (turned_opening 1 (open_of (flagging 0 h) w rates m delays k)) (open_of (flagging 0 h) w rates m delays k)
  unfolding open_of
  open-twin =
      ap (opened_of w) (contact-open-twin h w rates m delays k)
      ∙ managed-twin (λ (o : Opened). o.number) refused_opening (λ (o : ContactOpened). record { number = 0; manager = whole_of o.contact w o.total.0 }) (turned_opening 1) (λ n. refl) (λ o. refl) (λ o. refl)
      (open_contact (flagging 0 h) w rates m delays k)

  pub open-alike : (x y : Opened)
      → Met (open-reads.Post tt (flagging 0 h, (w, (rates, (m, (delays, (k, tt))))))) x → Met (open-reads.Post tt (flagging 1 h, (w, (rates, (m, (delays, (k, tt))))))) y
      → y ≡ pick (eqb x.number 0) (turned_opening 1 x) x
  open-alike x y p q = rw (p.1, q.1) open-twin

-- Where 17 is answered, and where it is out of reach.
module _ (r : FreeVolume) (at : Date) (b : Bundle) (d : TxData) where
  abbrev done : Booked
  done = booked_at r (found_of r at.0 b.size.0) b.size.0

  own : done.number ≡ 17 → ⊥
  own = booked-number r 17 (λ z. omega arith, λ z. omega arith, λ z. omega arith) (found_of r at.0 b.size.0) b.size.0

  -- only of an offer of zero length, and only by a strict record
  pub book-17 : (book_of r at b d).number ≡ 17 → (offers (dry_run_of r at b) d ≡ true) × (forbids (strict_of r.contact) d.send ≡ true)
  unfolding book_of
  book-17 e =
      let h = only-forbidden (λ (a : Booked). a.number) (λ n. refused_booking n r) done (λ n. refl) own (record_ok r) (bundle_ok at b) _ _ e in
      (h.2, h.3)

  -- never under edition 2
  pub second-never-17 : edition_of r.contact ≡ 2 → (book_of r at b d).number ≡ 17 → ⊥
  unfolding book_of
  second-never-17 two e = never-17 (λ (a : Booked). a.number) (λ n. refused_booking n r) done (λ n. refl) own (record_ok r) (bundle_ok at b) (strict_of r.contact) (dry_run_of r at b) d (offer-after r at b two) e
