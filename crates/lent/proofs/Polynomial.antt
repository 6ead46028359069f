-- The polynomial manager through every door: a run of lent calls, of kept ones and of the trace program's parts of a booking is a run of the
-- manager's total calls; so what is proved of these is proved of those.
use Prim.Native.Nat.{ℕ}
use mathlib.Core.Bool.{true}
use mathlib.Core.Path.{◌≡◌, sym, ap, ◌∙◌}
use mathlib.Core.List.{List}
use mathlib.Core.Logic.{⊎_elim, ◌⊎◌}
use lib.ListN.{length}
use borrow.Fn.Kinds.{Dens, ended_of}
use contract.Lifetimes.{Lfts}
use denote.Triple.Clauses.{AtExit}
use Rattle.units.specs.declared.Date.{Date}
use Rattle.units.specs.declared.Interval.{Interval}
use Rattle.units.specs.declared.TxData.{TxData}
use Rattle.units.specs.declared.Bundle.{Bundle}
use Rattle.units.specs.declared.Offer.{Offer}
use Rattle.units.specs.Limits.{segments_max}
use Rattle.units.specs.Logged.{Calls, State, promising, Runs, RunsFrom}
use Rattle.units.proofs.Determined.{Met}
use Rattle.units.proofs.Logged.{run-into}
use Rattle.units.specs.Granted.{refusal_of}
use Rattle.segmentation.specs.declared.DelaySegment.{DelaySegment}
use Rattle.free_list.specs.declared.Chosen.{Chosen}
use Rattle.free_list.specs.declared.Cut.{Cut}
use Rattle.poly.specs.declared.Polynome.{Polynome}
use Rattle.poly_seg.specs.declared.Choices.{Choices}
use Rattle.poly_seg.specs.declared.PolySeg.{PolySeg}
use Rattle.poly_seg.specs.declared.Opened.{Opened}
use Rattle.poly_seg.specs.declared.Booked.{Booked}
use Rattle.poly_seg.specs.Record.{strict_of, record_ok}
use Rattle.poly_seg.specs.Open.{open_of}
use Rattle.poly_seg.specs.DryRun.{dry_run_of}
use Rattle.poly_seg.specs.Book.{book_of, refused_booking, with_free}
use Rattle.poly_seg.specs.List.{list_of}
use Rattle.poly_seg.proofs.Calls.{chosen-offer, chosen-refused, chosen-done}
use Rattle.poly_seg.proofs.Kept.{opened-keeps, book-keeps}
use Rattle.poly_seg.proofs.Promised.{promised, dry-run-met, book-met, list-met, open-met, Reached}
use Rattle.poly_seg.proofs.PolySeg.chosen.Reads as chosen-reads
use Rattle.poly_seg.proofs.PolySeg.cut.Reads as cut-reads
use Rattle.poly_seg.proofs.PolySeg.dry_run_kept.Reads as kept-dry-reads
use Rattle.poly_seg.proofs.PolySeg.book_kept.Reads as kept-book-reads
use Rattle.howrekano.specs.Words.{polynome_in, poly_seg_in}
use Rattle.howrekano.proofs.Unique.{Answered, Stored}
use Rattle.howrekano.proofs.polynomial.hk_polynomial_dry_run_kept.Kinds as words-dry-kinds
use Rattle.howrekano.proofs.polynomial.hk_polynomial_dry_run_kept.Reads as words-dry-reads
use Rattle.howrekano.proofs.polynomial.hk_polynomial_book_kept.Kinds as words-book-kinds
use Rattle.howrekano.proofs.polynomial.hk_polynomial_book_kept.Reads as words-book-reads

-- hk_polynomial_dry_run_kept: parts that make the record, and an answer that its promise allows
module _ (κs : Lfts 4) (a : Dens κs words-dry-kinds.ps) where
  abbrev asked : PolySeg
  asked = poly_seg_in a.1.1.1.1.1.1.1.1.1.0.now a.0 (polynome_in a.1.0.now a.1.1.0) a.1.1.1.0.now a.1.1.1.1.0 a.1.1.1.1.1.0.now a.1.1.1.1.1.1.0

abbrev DryByWords : PolySeg → Date → Bundle → Offer → Type 0
DryByWords r at b o =
    (κs : Lfts 4) × (a : Dens κs words-dry-kinds.ps) × (asked κs a ≡ r) × (a.1.1.1.1.1.1.1.0 ≡ at) × (a.1.1.1.1.1.1.1.1.0 ≡ b) × (Met (words-dry-reads.Post κs a) o)

-- hk_polynomial_book_kept: likewise, and the record that the parts make at exit
module _ (κs : Lfts 6) (a : Dens κs words-book-kinds.ps) where
  abbrev held : PolySeg
  held = poly_seg_in a.1.1.1.1.1.1.1.1.1.1.0.now a.0 (polynome_in a.1.0.now a.1.1.0) a.1.1.1.0.now a.1.1.1.1.0 a.1.1.1.1.1.0.now a.1.1.1.1.1.1.0.now

  abbrev Exit : Type 0
  Exit = AtExit (ended_of 6 words-book-kinds.ps words-book-kinds.r) κs

  abbrev left : Exit → PolySeg
  left e = poly_seg_in a.1.1.1.1.1.1.1.1.1.1.0.now a.0 (polynome_in a.1.0.now a.1.1.0) a.1.1.1.0.now a.1.1.1.1.0 e.1.1.1.1.1.0.now e.1.1.1.1.1.1.0.now

abbrev BookByWords : PolySeg → Date → Bundle → TxData → Booked → Type 0
BookByWords r at b d x =
    (κs : Lfts 6) × (a : Dens κs words-book-kinds.ps) × (e : Exit κs a) × (held κs a ≡ r) × (a.1.1.1.1.1.1.1.0 ≡ at) × (a.1.1.1.1.1.1.1.1.0 ≡ b) × (a.1.1.1.1.1.1.1.1.1.0.now ≡ d)
    × (words-book-reads.Post κs a x.number e) × (left κs a e ≡ x.manager)

-- the trace program's dry run: what is chosen, and its answer
abbrev DryChosen : PolySeg → Date → Bundle → Offer → Type 0
DryChosen r at b o = (c : Chosen) × (Met (chosen-reads.Post tt (r, (at, (b, tt)))) c) × (o ≡ c.offer)

-- and its booking: the answer's refusal, and the record stays; or a cut where it was chosen
abbrev BookChosen : PolySeg → Date → Bundle → TxData → Booked → Type 0
BookChosen r at b d x =
    (c : Chosen) × (Met (chosen-reads.Post tt (r, (at, (b, tt)))) c)
    × (((refusal_of (strict_of r) c.offer d ≡ 0 → ⊥) × (x ≡ refused_booking (refusal_of (strict_of r) c.offer d) r))
    ⊎ ((refusal_of (strict_of r) c.offer d ≡ 0)
    × ((k : Cut) × (Met (cut-reads.Post tt (r, (c.place, (d.send, tt)))) k) × (x ≡ record { number = k.number; manager = with_free r k.list }))))

-- every door: a total call lent, a kept one by value, a kept one over a record's parts, the trace program's
abbrev Dry : PolySeg → Date → Bundle → Offer → Type 0
Dry r at b o = (Answered (dry_run_of r at b) o) ⊎ ((Met (kept-dry-reads.Post tt (r, (at, (b, tt)))) o) ⊎ ((DryByWords r at b o) ⊎ (DryChosen r at b o)))

abbrev Book : PolySeg → Date → Bundle → TxData → Booked → Type 0
Book r at b d x = (Stored (book_of r at b d).number (book_of r at b d).manager x.number x.manager) ⊎ ((Met (kept-book-reads.Post tt (r, (at, (b, (d, tt))))) x) ⊎ ((BookByWords r at b d x) ⊎ (BookChosen r at b d x)))

abbrev pub doors : Calls
doors = promising promised Dry Book (λ r o. Answered (list_of r) o) (λ r a. ⊥)

-- what a dry run and a booking are by each
dry-is : (r : PolySeg) (at : Date) (b : Bundle) (o : Offer) → record_ok r ≡ true → Dry r at b o → o ≡ dry_run_of r at b
dry-is r at b o ok =
    ⊎_elim (λ (p : Answered (dry_run_of r at b) o). p)
    (⊎_elim (λ (p : Met (kept-dry-reads.Post tt (r, (at, (b, tt)))) o). p.1)
    (⊎_elim (λ (p : DryByWords r at b o). rw (← p.2, ← p.3, ← p.4) p.5.1)
    (λ (p : DryChosen r at b o). p.2 ∙ ap (λ (c : Chosen). c.offer) p.1.1 ∙ chosen-offer r at b ok)))

abbrev made : ℕ → PolySeg → Booked
made n m = record { number = n; manager = m }

one : (x y : Booked) → x.number ≡ y.number → x.manager ≡ y.manager → x ≡ y
one x y e f = ap (λ (n : ℕ). made n x.manager) e ∙ ap (made y.number) f

chosen-books : (r : PolySeg) (at : Date) (b : Bundle) (d : TxData) (x : Booked) → record_ok r ≡ true → BookChosen r at b d x → x ≡ book_of r at b d
chosen-books r at b d x ok (c, m, e) =
    let is = m.1 in
    ⊎_elim
    (λ (p : (refusal_of (strict_of r) c.offer d ≡ 0 → ⊥) × (x ≡ refused_booking (refusal_of (strict_of r) c.offer d) r)).
    p.1 ∙ rw is (sym (chosen-refused r at b ok d (rw is at p.0))))
    (λ (p : (refusal_of (strict_of r) c.offer d ≡ 0) × ((k : Cut) × (Met (cut-reads.Post tt (r, (c.place, (d.send, tt)))) k) × (x ≡ record { number = k.number; manager = with_free r k.list }))).
    let done = (chosen-done r at b ok d (rw is at p.0)).0 in
    p.1.2 ∙ rw (p.1.1.1, is) (sym done))
    e

book-is : (r : PolySeg) (at : Date) (b : Bundle) (d : TxData) (x : Booked) → record_ok r ≡ true → Book r at b d x → x ≡ book_of r at b d
book-is r at b d x ok =
    ⊎_elim (λ (p : Stored (book_of r at b d).number (book_of r at b d).manager x.number x.manager). one x (book_of r at b d) p.0 p.1)
    (⊎_elim (λ (p : Met (kept-book-reads.Post tt (r, (at, (b, (d, tt))))) x). p.1)
    (⊎_elim
    (λ (p : BookByWords r at b d x). one x (book_of r at b d) (rw (← p.3, ← p.4, ← p.5, ← p.6) p.7.0) (sym p.8 ∙ rw (← p.3, ← p.4, ← p.5, ← p.6) p.7.1))
    (λ (p : BookChosen r at b d x). chosen-books r at b d x ok p)))

-- a run through any doors, call by call, is a run of the total calls
pub doors-run : (x y : State PolySeg) → record_ok x.manager ≡ true → Runs doors x y → Runs promised x y
doors-run =
    run-into promised (λ r. record_ok r ≡ true) (λ r at b d a p ok. rw p.1 (book-keeps r at b d ok)) (λ r a p ok. absurd p) Dry Book (λ r o. Answered (list_of r) o) (λ r a. ⊥)
    (λ r ok at b o p. rw (dry-is r at b o ok p) (dry-run-met r at b))
    (λ r ok at b d a p. rw (book-is r at b d a ok p) (book-met r at b d))
    (λ r o p. rw p (list-met r))
    (λ r a p. p)

-- from an opening by hk_polynomial_open on
pub doors-reached : (h : Choices) (w : Interval) (p : Polynome) (delays : List DelaySegment) (k : ℕ) (o : Opened) (y : State PolySeg)
    → length delays ≡ segments_max → Answered (open_of h w p delays k) o → o.number ≡ 0 → RunsFrom doors o.manager y
    → Reached h w p delays k y
doors-reached h w p delays k o y delay-size opens zero runs =
    let ok : record_ok o.manager ≡ true = rw opens (opened-keeps h w p delays k delay-size (sym (ap (λ (x : Opened). x.number) opens) ∙ zero)) in
    record {
      opened = o;
      delay-size = delay-size;
      met = rw opens (open-met h w p delays k);
      accepted = zero;
      runs = doors-run _ y ok runs;
    }
