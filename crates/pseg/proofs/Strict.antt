-- 02, R-7, of the priority manager's promises: every other call answers, and alters the record, as with the flag off; where 17 is out of reach.
use Prim.Native.Nat.{ℕ}
use mathlib.Core.Bool.{true}
use mathlib.Core.Path.{◌≡◌, refl, ap, ◌∙◌}
use mathlib.Core.List.{List, [], ◌∷◌}
use native.Mathlib.Omega.{arith}
use lib.Dec.{eqb}
use Rattle.units.specs.declared.Date.{Date}
use Rattle.units.specs.declared.Interval.{Interval}
use Rattle.units.specs.declared.TxData.{TxData}
use Rattle.units.specs.declared.Bundle.{Bundle}
use Rattle.units.specs.Logic.{pick}
use Rattle.units.specs.Limits.{bundle_ok}
use Rattle.units.specs.Answer.{offers}
use Rattle.units.specs.Strict.{forbids}
use Rattle.units.specs.Calls.{Calls}
use Rattle.units.specs.Twin.{Twins}
use Rattle.units.proofs.Determined.{Met}
use Rattle.units.proofs.Forbids.{only-forbidden, never-17}
use Rattle.units.proofs.Twin.{tables-twins}
use Rattle.segmentation.specs.declared.RateSegment.{RateSegment}
use Rattle.segmentation.specs.declared.DelaySegment.{DelaySegment}
use Rattle.contact.specs.declared.Choices.{Choices}
use Rattle.contact.specs.declared.Opened.{Opened as ContactOpened}
use Rattle.contact.specs.Choices.{flagging}
use Rattle.contact.specs.Open.{open_contact}
use Rattle.contact.specs.Record.{edition_of, strict_of}
use Rattle.contact.proofs.Twin.{contact-twin, open-twin as contact-open-twin, managed-twin}
use Rattle.bookings.specs.Search.{Run}
use Rattle.std.specs.declared.ops.ControlFlow.TheVariants.{Continue, Break}
use Rattle.pseg.specs.declared.PrioritySeg.{PrioritySeg}
use Rattle.pseg.specs.declared.Opened.{Opened}
use Rattle.pseg.specs.declared.Booked.{Booked}
use Rattle.pseg.specs.declared.Listing.{Listing}
use Rattle.bookings.specs.Cut.{list_in}
use Rattle.pseg.specs.Open.{whole_window, refused_opening, opened_of, open_of}
use Rattle.pseg.specs.Record.{bookings_ok, record_ok}
use Rattle.pseg.specs.DryRun.{dry_run_of, run_of, answer_to}
use Rattle.pseg.specs.Book.{book_of, booked_at, refused_booking}
use Rattle.pseg.specs.List.{list_of}
use Rattle.pseg.specs.Strict.{flagged, turned, turned_opening}
use Rattle.pseg.proofs.Calls.{booked-number}
use Rattle.pseg.proofs.Second.{offer-after}
use Rattle.pseg.proofs.PrioritySeg.open.Reads as open-reads
use Rattle.pseg.proofs.PrioritySeg.dry_run.Reads as dry-run-reads
use Rattle.pseg.proofs.PrioritySeg.book.Reads as book-reads
use Rattle.pseg.proofs.PrioritySeg.list.Reads as list-reads

-- the promises of the manager's calls, as src/ has them
abbrev pub promised : Calls
promised =
    record {
      Manager = PrioritySeg;
      Booked = Booked;
      Listing = Listing;
      dry_run = λ r at b o. Met (dry-run-reads.Post tt (r, (at, (b, tt)))) o;
      book = λ r at b d a. Met (book-reads.Post tt (r, (at, (b, (d, tt))))) a;
      list = λ r o. Met (list-reads.Post tt (r, tt)) o;
      after = λ (a : Booked). a.manager;
    }

module _ (r : PrioritySeg) where
  record-twin : record_ok (flagged 1 r) ≡ record_ok (flagged 0 r)
  unfolding record_ok bookings_ok
  record-twin = rw (contact-twin r.contact)

  list-twin : list_of (flagged 1 r) ≡ list_of (flagged 0 r)
  unfolding list_of
  list-twin = rw record-twin

  booked-twin : (x : Run) (p : ℕ) → booked_at (flagged 1 r) x p ≡ turned 1 (booked_at (flagged 0 r) x p)
  booked-twin (Break send) p = refl
  booked-twin (Continue now) p = refl

  answer-twin : (x : Run) → answer_to (flagged 1 r) x ≡ answer_to (flagged 0 r) x
  answer-twin (Break send) = refl
  answer-twin (Continue now) = refl

-- 02's sentence
pub strict-twins : Twins promised flagged turned refused_booking
unfolding dry_run_of book_of
strict-twins =
    tables-twins promised flagged turned refused_booking
    (record {
      kept = record_ok;
      strict = λ r. strict_of r.contact;
      answer = λ r at b. answer_to r (run_of r at.0 b);
      booked = λ r at b. booked_at r (run_of r at.0 b) b.priority.0;
      listing = list_of;
      dry-run-is = λ r at b o p. p.1;
      book-is = λ r at b d a p. p.1;
      list-is = λ r o p. p.1;
      flag = λ n r. refl;
      kept-twin = record-twin;
      answer-twin = λ r at b. answer-twin r (run_of (flagged 0 r) at.0 b);
      booked-twin = λ r at b. booked-twin r (run_of (flagged 0 r) at.0 b) b.priority.0;
      listing-twin = list-twin;
      refuse-twin = λ n r. refl;
    })

-- and of an opening: a refused one is the same, an accepted one's record differs in the flag alone
module _ (h : Choices) (w : Interval) (rates : List RateSegment) (m : ℕ) (delays : List DelaySegment) (k : ℕ) where
  open-twin : open_of (flagging 1 h) w rates m delays k
      ≡ pick (eqb (open_of (flagging 0 h) w rates m delays k).number 0) (turned_opening 1 (open_of (flagging 0 h) w rates m delays k)) (open_of (flagging 0 h) w rates m delays k)
  unfolding open_of
  open-twin =
      ap (opened_of w) (contact-open-twin h w rates m delays k)
      ∙ managed-twin (λ (o : Opened). o.number) refused_opening (λ (o : ContactOpened). record { number = 0; manager = record { contact = o.contact; bookings = list_in (whole_window w ∷ []) } }) (turned_opening 1) (λ n. refl) (λ o. refl) (λ o. refl)
      (open_contact (flagging 0 h) w rates m delays k)

  pub open-alike : (x y : Opened)
      → Met (open-reads.Post tt (flagging 0 h, (w, (rates, (m, (delays, (k, tt))))))) x → Met (open-reads.Post tt (flagging 1 h, (w, (rates, (m, (delays, (k, tt))))))) y
      → y ≡ pick (eqb x.number 0) (turned_opening 1 x) x
  open-alike x y p q = rw (p.1, q.1) open-twin

-- Where 17 is answered, and where it is out of reach.
module _ (r : PrioritySeg) (at : Date) (b : Bundle) (d : TxData) where
  abbrev done : Booked
  done = booked_at r (run_of r at.0 b) b.priority.0

  own : done.number ≡ 17 → ⊥
  own = booked-number r 17 (λ z. omega arith, λ z. omega arith, λ z. omega arith) (run_of r at.0 b) b.priority.0

  -- only of an offer of zero length, and only by a strict record
  pub book-17 : (book_of r at b d).number ≡ 17 → (offers (dry_run_of r at b) d ≡ true) × (forbids (strict_of r.contact) d.send ≡ true)
  unfolding book_of
  book-17 e =
      let h = only-forbidden (λ (a : Booked). a.number) (λ n. refused_booking n r) done (λ n. refl) own (record_ok r) (bundle_ok at b) _ _ e in
      (h.2, h.3)

  -- never under edition 2
  pub second-never-17 : edition_of r.contact ≡ 2 → (book_of r at b d).number ≡ 17 → ⊥
  unfolding book_of
  second-never-17 two e = never-17 (λ (a : Booked). a.number) (λ n. refused_booking n r) done (λ n. refl) own (record_ok r) (bundle_ok at b) (strict_of r.contact) (dry_run_of r at b) d (offer-after r at b two) e
