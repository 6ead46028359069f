-- R-8 over the promises of the calls in src/, by value: the total ones, and the kept ones, which take the record's rules for granted. `Post` is the checker's reading of a contract.
use Prim.Native.Nat.{ℕ}
use mathlib.Core.Bool.{true}
use mathlib.Core.Path.{◌≡◌, sym, ap, ◌∙◌}
use mathlib.Core.List.{List}
use Rattle.units.specs.declared.Date.{Date}
use Rattle.units.specs.declared.Interval.{Interval}
use Rattle.units.specs.declared.TxData.{TxData}
use Rattle.units.specs.declared.Bundle.{Bundle}
use Rattle.units.specs.declared.Offer.{Offer}
use Rattle.units.specs.Limits.{bundle_ok}
use Rattle.units.specs.Answer.{offers, booking_of}
use Rattle.units.specs.Strict.{forbids}
use Rattle.contact.specs.Record.{strict_of}
use Rattle.units.proofs.Determined.{Met}
use Rattle.segmentation.specs.declared.RateSegment.{RateSegment}
use Rattle.segmentation.specs.declared.DelaySegment.{DelaySegment}
use Rattle.contact.specs.declared.Choices.{Choices}
use Rattle.pseg.specs.declared.PrioritySeg.{PrioritySeg}
use Rattle.pseg.specs.declared.Opened.{Opened}
use Rattle.pseg.specs.declared.Booked.{Booked}
use Rattle.pseg.specs.declared.Listing.{Listing}
use Rattle.pseg.specs.Record.{record_ok}
use Rattle.pseg.specs.Book.{booked_of, refused_booking}
use Rattle.pseg.proofs.PrioritySeg.open.Reads as open-reads
use Rattle.pseg.proofs.PrioritySeg.dry_run.Reads as dry-run-reads
use Rattle.pseg.proofs.PrioritySeg.dry_run_kept.Reads as dry-run-kept-reads
use Rattle.pseg.proofs.PrioritySeg.book.Reads as book-reads
use Rattle.pseg.proofs.PrioritySeg.book_kept.Reads as book-kept-reads
use Rattle.pseg.proofs.PrioritySeg.list.Reads as list-reads
use Rattle.earliest.specs.Start.{Least}
use Rattle.earliest.specs.Earliest.{StartIn, NoEmpty, Earliest}
use Rattle.earliest.specs.Rest.{Rest}
use Rattle.earliest.proofs.Earliest.{dry-earliest}
use Rattle.earliest.proofs.Booking.{book-earliest, book-told}
use Rattle.pseg.proofs.Never8.{open-never-8, dry-never-8, book-never-8, list-never-8}

module _ (r : PrioritySeg) (at : Date) (b : Bundle) (ok : record_ok r ≡ true) (none : NoEmpty r) where
  -- the dry run: whatever answer its promise allows is the earliest place
  module _ (fits : bundle_ok at b ≡ true) (o : Offer) where
    pub earliest : Met (dry-run-reads.Post tt (r, (at, (b, tt)))) o → (Earliest r at b o) × (Rest r b o)
    earliest p = rw p.1 (dry-earliest r at b ok none fits)

    pub earliest-kept : Met (dry-run-kept-reads.Post tt (r, (at, (b, tt)))) o → (Earliest r at b o) × (Rest r b o)
    earliest-kept p = rw p.1 (dry-earliest r at b ok none fits)

  -- the booking: what is accepted starts at the least start
  module _ (d : TxData) (a : Booked) where
    pub booked-earliest : Met (book-reads.Post tt (r, (at, (b, (d, tt))))) a → a.number ≡ 0 → Least (StartIn r at b) d.send.start.0
    booked-earliest p zero = book-earliest r at b d ok none (sym (ap (λ (x : Booked). x.number) p.1) ∙ zero)

    pub booked-earliest-kept : Met (book-kept-reads.Post tt (r, (at, (b, (d, tt))))) a → a.number ≡ 0 → Least (StartIn r at b) d.send.start.0
    booked-earliest-kept p zero = book-earliest r at b d ok none (sym (ap (λ (x : Booked). x.number) p.1) ∙ zero)

    -- and what it answers and hands back is told by whatever answer is the earliest place
    pub booked-told : bundle_ok at b ≡ true → Met (book-reads.Post tt (r, (at, (b, (d, tt))))) a → (o : Offer) → Earliest r at b o → Rest r b o
        → a ≡ booking_of true true (offers o d) (forbids (strict_of r.contact) d.send) (λ n. refused_booking n r) (booked_of r d.send b.priority.0)
    booked-told fits p o h k = p.1 ∙ book-told r at b d ok none fits o h k

-- no call answers 8, on any record, damaged ones too, and for any bundle
module _ (r : PrioritySeg) (at : Date) (b : Bundle) where
  pub dry-run-not-8 : (o : Offer) → Met (dry-run-reads.Post tt (r, (at, (b, tt)))) o → o.number ≡ 8 → ⊥
  dry-run-not-8 o p h = dry-never-8 r at b (sym (ap (λ (x : Offer). x.number) p.1) ∙ h)

  pub book-not-8 : (d : TxData) (a : Booked) → Met (book-reads.Post tt (r, (at, (b, (d, tt))))) a → a.number ≡ 8 → ⊥
  book-not-8 d a p h = book-never-8 r at b d (sym (ap (λ (x : Booked). x.number) p.1) ∙ h)

  pub list-not-8 : (l : Listing) → Met (list-reads.Post tt (r, tt)) l → l.number ≡ 8 → ⊥
  list-not-8 l p h = list-never-8 r (sym (ap (λ (x : Listing). x.number) p.1) ∙ h)

pub open-not-8 : (h : Choices) (w : Interval) (rates : List RateSegment) (m : ℕ) (delays : List DelaySegment) (k : ℕ) (o : Opened)
    → Met (open-reads.Post tt (h, (w, (rates, (m, (delays, (k, tt))))))) o → o.number ≡ 8 → ⊥
open-not-8 h w rates m delays k o p z = open-never-8 h w rates m delays k (sym (ap (λ (x : Opened). x.number) p.1) ∙ z)
