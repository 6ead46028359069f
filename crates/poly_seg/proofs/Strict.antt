-- 02, R-7, of the polynomial manager's promises: every other call answers, and alters the record, as with the flag off; 17 is out of reach.
use Rattle.std.specs.Prelude.{Option, Some, None}
use Prim.Native.Nat.{ℕ}
use mathlib.Core.Path.{◌≡◌, refl}
use mathlib.Core.List.{List}
use native.Mathlib.Omega.{arith}
use lib.Dec.{eqb}
use Rattle.units.specs.declared.Date.{Date}
use Rattle.units.specs.declared.Interval.{Interval}
use Rattle.units.specs.declared.TxData.{TxData}
use Rattle.units.specs.declared.Bundle.{Bundle}
use Rattle.units.specs.Logic.{pick}
use Rattle.units.specs.Limits.{window_ok, bundle_ok}
use Rattle.units.specs.Strict.{strict_ok}
use Rattle.units.specs.Calls.{Calls}
use Rattle.units.specs.Twin.{Twins}
use Rattle.units.proofs.Logic.{unless-turned, pick-keeps}
use Rattle.units.proofs.Determined.{Met}
use Rattle.units.proofs.Forbids.{forbidden-zero, only-forbidden}
use Rattle.units.proofs.Twin.{tables-twins}
use Rattle.segmentation.specs.declared.DelaySegment.{DelaySegment}
use Rattle.free_list.specs.declared.Fit.{Fit}
use Rattle.poly.specs.declared.Polynome.{Polynome}
use Rattle.poly.specs.Poly.{poly_ok}
use Rattle.poly_seg.specs.declared.Choices.{Choices}
use Rattle.poly_seg.specs.declared.PolySeg.{PolySeg}
use Rattle.poly_seg.specs.declared.Opened.{Opened}
use Rattle.poly_seg.specs.declared.Booked.{Booked}
use Rattle.poly_seg.specs.declared.Listing.{Listing}
use Rattle.poly_seg.specs.Choices.{choices_ok, flagging}
use Rattle.poly_seg.specs.Open.{delays_by, open_of}
use Rattle.poly_seg.specs.Record.{strict_of, record_ok}
use Rattle.poly_seg.specs.DryRun.{dry_run_of, found_of, answer_to}
use Rattle.poly_seg.specs.Book.{book_of, booked_at, refused_booking}
use Rattle.poly_seg.specs.List.{list_of}
use Rattle.poly_seg.specs.Strict.{flagged, turned, turned_opening}
use Rattle.poly_seg.proofs.Facts.{facts, found_after}
use Rattle.poly_seg.proofs.Calls.{booked-number, chosen-some, chosen-found}
use Rattle.poly_seg.proofs.PolySeg.open.Reads as open-reads
use Rattle.poly_seg.proofs.PolySeg.dry_run.Reads as dry-run-reads
use Rattle.poly_seg.proofs.PolySeg.book.Reads as book-reads
use Rattle.poly_seg.proofs.PolySeg.list.Reads as list-reads

-- the promises of the manager's calls, as src/ has them
abbrev pub promised : Calls
promised =
    record {
      Manager = PolySeg;
      Booked = Booked;
      Listing = Listing;
      dry_run = λ r at b o. Met (dry-run-reads.Post tt (r, (at, (b, tt)))) o;
      book = λ r at b d a. Met (book-reads.Post tt (r, (at, (b, (d, tt))))) a;
      list = λ r o. Met (list-reads.Post tt (r, tt)) o;
      after = λ (a : Booked). a.manager;
    }

-- an opening: a refused one is the same, an accepted one's record differs in the flag alone
abbrev turned_if : Opened → Opened
turned_if o = pick (eqb o.number 0) (turned_opening 1 o) o

module _ (h : Choices) (w : Interval) (p : Polynome) (delays : List DelaySegment) (k : ℕ) where
  choices-twin : choices_ok (flagging 1 h) ≡ choices_ok (flagging 0 h)
  unfolding choices_ok strict_ok
  choices-twin = refl

  open-twin : open_of (flagging 1 h) w p delays k ≡ turned_if (open_of (flagging 0 h) w p delays k)
  unfolding open_of
  open-twin =
      rw choices-twin
      (unless-turned turned_if (choices_ok (flagging 0 h)) refl
      (unless-turned turned_if (window_ok w) refl
      (unless-turned turned_if (delays_by h.rule.0 w k delays) refl
      (unless-turned turned_if (poly_ok h.mode.0 p w) refl refl))))

  pub open-alike : (x y : Opened)
      → Met (open-reads.Post tt (flagging 0 h, (w, (p, (delays, (k, tt)))))) x → Met (open-reads.Post tt (flagging 1 h, (w, (p, (delays, (k, tt)))))) y
      → y ≡ pick (eqb x.number 0) (turned_opening 1 x) x
  open-alike x y a b = rw (a.1, b.1) open-twin

module _ (r : PolySeg) where
  record-twin : record_ok (flagged 1 r) ≡ record_ok (flagged 0 r)
  unfolding record_ok
  record-twin =
      let same = open_of (flagging 0 r.choices) r.window r.polynome r.delays r.delay_count in
      let number : (turned_if same).number ≡ same.number = pick-keeps (λ (o : Opened). o.number ≡ same.number) (eqb same.number 0) _ _ (λ _. refl) (λ _. refl) in
      rw (open-twin r.choices r.window r.polynome r.delays r.delay_count, number)

  list-twin : list_of (flagged 1 r) ≡ list_of (flagged 0 r)
  unfolding list_of
  list-twin = rw record-twin

  booked-twin : (f : Option Fit) → booked_at (flagged 1 r) f ≡ turned 1 (booked_at (flagged 0 r) f)
  booked-twin (Some x) = refl
  booked-twin None = refl

  answer-twin : (f : Option Fit) → answer_to (flagged 1 r) f ≡ answer_to (flagged 0 r) f
  answer-twin (Some x) = refl
  answer-twin None = refl

-- 02's sentence
pub strict-twins : Twins promised flagged turned refused_booking
unfolding dry_run_of book_of
strict-twins =
    tables-twins promised flagged turned refused_booking
    (record {
      kept = record_ok;
      strict = strict_of;
      answer = λ r at b. answer_to r (found_of r at.0 b.size.0);
      booked = λ r at b. booked_at r (found_of r at.0 b.size.0);
      listing = list_of;
      dry-run-is = λ r at b o p. p.1;
      book-is = λ r at b d a p. p.1;
      list-is = λ r o p. p.1;
      flag = λ n r. refl;
      kept-twin = record-twin;
      answer-twin = λ r at b. answer-twin r (found_of (flagged 0 r) at.0 b.size.0);
      booked-twin = λ r at b. booked-twin r (found_of (flagged 0 r) at.0 b.size.0);
      listing-twin = list-twin;
      refuse-twin = λ n r. refl;
    })

-- no offer is of zero length, so 17 is never answered
module _ (r : PolySeg) (at : Date) (b : Bundle) (d : TxData) where
  abbrev done : Booked
  done = booked_at r (found_of r at.0 b.size.0)

  own : done.number ≡ 17 → ⊥
  own = booked-number r 17 (λ z. omega arith, λ z. omega arith, λ z. omega arith) (found_of r at.0 b.size.0)

  pub book-never-17 : (book_of r at b d).number ≡ 17 → ⊥
  unfolding book_of
  book-never-17 e =
      let h = only-forbidden (λ (a : Booked). a.number) (λ n. refused_booking n r) done (λ n. refl) own (record_ok r) (bundle_ok at b) _ _ e in
      let after = found_after r (facts r h.0) at.0 b.size.0 (chosen-some r at b h.0 d h.2) _ d.send (chosen-found r at b h.0 d h.2) in
      omega (arith, after, forbidden-zero (strict_of r) d.send h.3)
