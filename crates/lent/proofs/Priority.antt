-- The priority manager through every door: a run of lent calls, of kept ones, of a booking's parts and of the trace program's is a run of the
-- manager's total calls; so what is proved of these is proved of those.
use Prim.Native.Nat.{ℕ}
use mathlib.Core.Bool.{true}
use mathlib.Core.Path.{◌≡◌, sym, ap, ◌∙◌}
use mathlib.Core.List.{List}
use mathlib.Core.Logic.{⊎_elim, ◌⊎◌}
use lib.ListN.{length}
use borrow.Fn.Kinds.{Dens, ended_of}
use contract.Lifetimes.{Lfts}
use denote.Triple.Clauses.{AtExit}
use Rattle.units.specs.declared.Date.{Date}
use Rattle.units.specs.declared.Interval.{Interval}
use Rattle.units.specs.declared.TxData.{TxData}
use Rattle.units.specs.declared.Bundle.{Bundle}
use Rattle.units.specs.declared.Offer.{Offer}
use Rattle.units.specs.Limits.{segments_max}
use Rattle.units.specs.Logged.{Calls, State, promising, Runs, RunsFrom}
use Rattle.units.proofs.Determined.{Met}
use Rattle.units.proofs.Logged.{run-into}
use Rattle.units.specs.Granted.{refusal_of}
use Rattle.std.proofs.Common.{Result}
use Rattle.units.specs.declared.refusal.Refusal.{Refusal}
use Rattle.units.specs.Refusal.{told}
use Rattle.segmentation.specs.declared.RateSegment.{RateSegment}
use Rattle.segmentation.specs.declared.DelaySegment.{DelaySegment}
use Rattle.contact.specs.declared.Choices.{Choices}
use Rattle.contact.specs.Record.{strict_of}
use Rattle.bookings.specs.declared.Set.{Set}
use Rattle.pseg.specs.declared.PrioritySeg.{PrioritySeg}
use Rattle.pseg.specs.declared.Opened.{Opened}
use Rattle.pseg.specs.declared.Booked.{Booked}
use Rattle.pseg.specs.Record.{record_ok}
use Rattle.pseg.specs.Open.{open_of}
use Rattle.pseg.specs.DryRun.{dry_run_of}
use Rattle.pseg.specs.Book.{book_of, refused_booking}
use Rattle.pseg.specs.List.{list_of}
use Rattle.pseg.proofs.ByDryRun.{dry-refused, dry-done}
use Rattle.pseg.proofs.Kept.{opened-keeps, book-keeps}
use Rattle.pseg.proofs.Promised.{promised, dry-run-met, book-met, list-met, open-met, Reached}
use Rattle.pseg.proofs.PrioritySeg.set.Reads as set_Reads
use Rattle.pseg.proofs.PrioritySeg.dry_run_kept.Reads as kept-dry-reads
use Rattle.pseg.proofs.PrioritySeg.book_kept.Reads as kept-book-reads
use Rattle.pseg.proofs.PrioritySeg.book_here.Kinds as here-kinds
use Rattle.pseg.proofs.PrioritySeg.book_here.Reads as here-reads
use Rattle.howrekano.specs.Words.{priority_seg_in}
use Rattle.howrekano.proofs.Unique.{Answered, Stored}
use Rattle.howrekano.proofs.priority.hk_priority_dry_run_kept.Kinds as words-dry-kinds
use Rattle.howrekano.proofs.priority.hk_priority_dry_run_kept.Reads as words-dry-reads
use Rattle.howrekano.proofs.priority.hk_priority_book_kept.Kinds as words-book-kinds
use Rattle.howrekano.proofs.priority.hk_priority_book_kept.Reads as words-book-reads

-- hk_priority_dry_run_kept: parts that make the record, and an answer that its promise allows
module _ (κs : Lfts 4) (a : Dens κs words-dry-kinds.ps) where
  abbrev asked : PrioritySeg
  asked = priority_seg_in a.1.1.1.1.1.1.1.1.1.0.now a.0 a.1.0.now a.1.1.0 a.1.1.1.0.now a.1.1.1.1.0 a.1.1.1.1.1.0.now a.1.1.1.1.1.1.0

abbrev DryByWords : PrioritySeg → Date → Bundle → Offer → Type 0
DryByWords r at b o =
    (κs : Lfts 4) × (a : Dens κs words-dry-kinds.ps) × (asked κs a ≡ r) × (a.1.1.1.1.1.1.1.0 ≡ at) × (a.1.1.1.1.1.1.1.1.0 ≡ b) × (Met (words-dry-reads.Post κs a) o)

-- hk_priority_book_kept: likewise, and the record that the parts make at exit
module _ (κs : Lfts 6) (a : Dens κs words-book-kinds.ps) where
  abbrev held : PrioritySeg
  held = priority_seg_in a.1.1.1.1.1.1.1.1.1.1.0.now a.0 a.1.0.now a.1.1.0 a.1.1.1.0.now a.1.1.1.1.0 a.1.1.1.1.1.0.now a.1.1.1.1.1.1.0.now

  abbrev Exit : Type 0
  Exit = AtExit (ended_of 6 words-book-kinds.ps words-book-kinds.r) κs

  abbrev left : Exit → PrioritySeg
  left e = priority_seg_in a.1.1.1.1.1.1.1.1.1.1.0.now a.0 a.1.0.now a.1.1.0 a.1.1.1.0.now a.1.1.1.1.0 e.1.1.1.1.1.0.now e.1.1.1.1.1.1.0.now

abbrev BookByWords : PrioritySeg → Date → Bundle → TxData → Booked → Type 0
BookByWords r at b d x =
    (κs : Lfts 6) × (a : Dens κs words-book-kinds.ps) × (e : Exit κs a) × (held κs a ≡ r) × (a.1.1.1.1.1.1.1.0 ≡ at) × (a.1.1.1.1.1.1.1.1.0 ≡ b) × (a.1.1.1.1.1.1.1.1.1.0.now ≡ d)
    × (words-book-reads.Post κs a x.number e) × (left κs a e ≡ x.manager)

-- a booking by its parts: the kept dry run's refusal, and the record stays; or its send interval set to the priority
abbrev BookSet : PrioritySeg → Date → Bundle → TxData → Booked → Type 0
BookSet r at b d x =
    (o : Offer) × (Met (kept-dry-reads.Post tt (r, (at, (b, tt)))) o)
    × (((refusal_of (strict_of r.contact) o d ≡ 0 → ⊥) × (x ≡ refused_booking (refusal_of (strict_of r.contact) o d) r))
    ⊎ ((refusal_of (strict_of r.contact) o d ≡ 0)
    × ((k : Set) × (Met (set_Reads.Post tt (r, (d.send, (b.priority, tt)))) k) × (x ≡ record { number = k.number; manager = record { contact = r.contact; bookings = k.bookings } }))))

-- the trace program's booking where the record stands: the record that is lent, its number, and the record that is left there
module _ (κs : Lfts 1) (a : Dens κs here-kinds.ps) where
  abbrev HereExit : Type 0
  HereExit = AtExit (ended_of 1 here-kinds.ps here-kinds.r) κs

abbrev BookHere : PrioritySeg → Date → Bundle → TxData → Booked → Type 0
BookHere r at b d x =
    (κs : Lfts 1) × (a : Dens κs here-kinds.ps) × (e : HereExit κs a) × (t : Result Unit Refusal) × (a.0.now ≡ r) × (a.1.0 ≡ at) × (a.1.1.0 ≡ b) × (a.1.1.1.0 ≡ d)
    × (here-reads.Post κs a t e) × (told t ≡ x.number) × (e.0.now ≡ x.manager)

-- every door: a total call lent, a kept one by value, a kept one over a record's parts, a setting after a kept dry run, the trace program's
abbrev Dry : PrioritySeg → Date → Bundle → Offer → Type 0
Dry r at b o = (Answered (dry_run_of r at b) o) ⊎ ((Met (kept-dry-reads.Post tt (r, (at, (b, tt)))) o) ⊎ (DryByWords r at b o))

abbrev Book : PrioritySeg → Date → Bundle → TxData → Booked → Type 0
Book r at b d x = (Stored (book_of r at b d).number (book_of r at b d).manager x.number x.manager) ⊎ ((Met (kept-book-reads.Post tt (r, (at, (b, (d, tt))))) x) ⊎ ((BookByWords r at b d x) ⊎ ((BookSet r at b d x) ⊎ (BookHere r at b d x))))

abbrev pub doors : Calls
doors = promising promised Dry Book (λ r o. Answered (list_of r) o) (λ r a. ⊥)

-- what a dry run and a booking are by each
dry-is : (r : PrioritySeg) (at : Date) (b : Bundle) (o : Offer) → record_ok r ≡ true → Dry r at b o → o ≡ dry_run_of r at b
dry-is r at b o ok =
    ⊎_elim (λ (p : Answered (dry_run_of r at b) o). p)
    (⊎_elim (λ (p : Met (kept-dry-reads.Post tt (r, (at, (b, tt)))) o). p.1)
    (λ (p : DryByWords r at b o). rw (← p.2, ← p.3, ← p.4) p.5.1))

abbrev made : ℕ → PrioritySeg → Booked
made n m = record { number = n; manager = m }

one : (x y : Booked) → x.number ≡ y.number → x.manager ≡ y.manager → x ≡ y
one x y e f = ap (λ (n : ℕ). made n x.manager) e ∙ ap (made y.number) f

set-books : (r : PrioritySeg) (at : Date) (b : Bundle) (d : TxData) (x : Booked) → record_ok r ≡ true → BookSet r at b d x → x ≡ book_of r at b d
set-books r at b d x ok (o, m, e) =
    let is = m.1 in
    ⊎_elim
    (λ (p : (refusal_of (strict_of r.contact) o d ≡ 0 → ⊥) × (x ≡ refused_booking (refusal_of (strict_of r.contact) o d) r)).
    p.1 ∙ rw is (sym (dry-refused r at b d ok (rw is at p.0))))
    (λ (p : (refusal_of (strict_of r.contact) o d ≡ 0)
    × ((k : Set) × (Met (set_Reads.Post tt (r, (d.send, (b.priority, tt)))) k) × (x ≡ record { number = k.number; manager = record { contact = r.contact; bookings = k.bookings } }))).
    let done = (dry-done r at b d ok (rw is at p.0)).0 in
    p.1.2 ∙ rw p.1.1.1 (sym done))
    e

here-books : (r : PrioritySeg) (at : Date) (b : Bundle) (d : TxData) (x : Booked) → BookHere r at b d x → x ≡ book_of r at b d
here-books r at b d x (κs, a, e, t, came, when, bundle, dates, post, number, left) =
    let is : made (told t) e.0.now ≡ book_of r at b d = rw (← came, ← when, ← bundle, ← dates) post in
    one x (book_of r at b d) (sym number ∙ ap (λ (y : Booked). y.number) is) (sym left ∙ ap (λ (y : Booked). y.manager) is)

book-is : (r : PrioritySeg) (at : Date) (b : Bundle) (d : TxData) (x : Booked) → record_ok r ≡ true → Book r at b d x → x ≡ book_of r at b d
book-is r at b d x ok =
    ⊎_elim (λ (p : Stored (book_of r at b d).number (book_of r at b d).manager x.number x.manager). one x (book_of r at b d) p.0 p.1)
    (⊎_elim (λ (p : Met (kept-book-reads.Post tt (r, (at, (b, (d, tt))))) x). p.1)
    (⊎_elim
    (λ (p : BookByWords r at b d x). one x (book_of r at b d) (rw (← p.3, ← p.4, ← p.5, ← p.6) p.7.0) (sym p.8 ∙ rw (← p.3, ← p.4, ← p.5, ← p.6) p.7.1))
    (⊎_elim
    (λ (p : BookSet r at b d x). set-books r at b d x ok p)
    (λ (p : BookHere r at b d x). here-books r at b d x p))))

-- a run through any doors, call by call, is a run of the total calls
pub doors-run : (x y : State PrioritySeg) → record_ok x.manager ≡ true → Runs doors x y → Runs promised x y
doors-run =
    run-into promised (λ r. record_ok r ≡ true) (λ r at b d a p ok. rw p.1 (book-keeps r at b d ok)) (λ r a p ok. absurd p) Dry Book (λ r o. Answered (list_of r) o) (λ r a. ⊥)
    (λ r ok at b o p. rw (dry-is r at b o ok p) (dry-run-met r at b))
    (λ r ok at b d a p. rw (book-is r at b d a ok p) (book-met r at b d))
    (λ r o p. rw p (list-met r))
    (λ r a p. p)

-- from an opening by hk_priority_open on
pub doors-reached : (h : Choices) (w : Interval) (rates : List RateSegment) (m : ℕ) (delays : List DelaySegment) (k : ℕ) (o : Opened) (y : State PrioritySeg)
    → length rates ≡ segments_max → length delays ≡ segments_max → Answered (open_of h w rates m delays k) o → o.number ≡ 0 → RunsFrom doors o.manager y
    → Reached h w rates m delays k y
doors-reached h w rates m delays k o y rate-size delay-size opens zero runs =
    let ok : record_ok o.manager ≡ true = rw opens (opened-keeps h w rates m delays k (sym (ap (λ (x : Opened). x.number) opens) ∙ zero) rate-size delay-size) in
    record {
      opened = o;
      rate-size = rate-size;
      delay-size = delay-size;
      met = rw opens (open-met h w rates m delays k);
      accepted = zero;
      runs = doors-run _ y ok runs;
    }
