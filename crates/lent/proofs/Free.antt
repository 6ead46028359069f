-- The free-volume manager through every door: a run of lent calls, of kept ones, of a booking's parts and of the trace program's is a run of the
-- manager's total calls; so what is proved of these, demand 3 first, is proved of those.
use Prim.Native.Nat.{ℕ}
use mathlib.Core.Bool.{true}
use mathlib.Core.Path.{◌≡◌, sym, ap, ◌∙◌}
use mathlib.Core.List.{List}
use mathlib.Core.Logic.{⊎_elim}
use lib.ListN.{length}
use Rattle.units.specs.declared.Date.{Date}
use Rattle.units.specs.declared.Volume.{Volume}
use Rattle.units.specs.declared.Interval.{Interval}
use Rattle.units.specs.declared.TxData.{TxData}
use Rattle.units.specs.declared.Bundle.{Bundle}
use Rattle.units.specs.declared.Offer.{Offer}
use Rattle.units.specs.Limits.{segments_max}
use Rattle.units.specs.Logged.{State, Runs, RunsFrom}
use Rattle.units.proofs.Determined.{Met}
use Rattle.units.proofs.Logged.{run-into}
use Rattle.units.specs.Granted.{refusal_of}
use Rattle.segmentation.specs.declared.RateSegment.{RateSegment}
use Rattle.segmentation.specs.declared.DelaySegment.{DelaySegment}
use Rattle.contact.specs.declared.Choices.{Choices}
use Rattle.contact.specs.Open.{contact_of}
use Rattle.contact.specs.Record.{strict_of}
use Rattle.free_list.specs.declared.Chosen.{Chosen}
use Rattle.free_list.specs.declared.Cut.{Cut}
use Rattle.free_list.specs.Cut.{listed}
use Rattle.free_list.proofs.changed.Reads as changed-reads
use Rattle.seg.specs.declared.FreeVolume.{FreeVolume}
use Rattle.seg.specs.declared.Opened.{Opened}
use Rattle.seg.specs.declared.Booked.{Booked}
use Rattle.seg.specs.Record.{record_ok, with_left}
use Rattle.seg.specs.Open.{open_of}
use Rattle.seg.specs.DryRun.{dry_run_of}
use Rattle.seg.specs.Book.{book_of, refused_booking}
use Rattle.seg.specs.List.{list_of}
use Rattle.seg.proofs.Facts.{left_is}
use Rattle.seg.proofs.Calls.{chosen-offer, chosen-refused, chosen-done}
use Rattle.seg.proofs.Kept.{opened-keeps, book-keeps}
use Rattle.seg.proofs.Promised.{promised, dry-run-met, book-met, list-met, open-met, Reached}
use Rattle.seg.proofs.FreeVolume.cut.Reads as cut-reads
use Rattle.seg.proofs.FreeVolume.dry_run_kept.Reads as kept-dry-reads
use Rattle.seg.proofs.FreeVolume.book_kept.Reads as kept-book-reads
use Rattle.demand.specs.Opened.{DemandIn}
use Rattle.demand.proofs.Opened.{demand-3-opened}
use Rattle.howrekano.proofs.Unique.{Answered, Stored}
use Rattle.units.specs.Refusal.{told}
use Rattle.lent.proofs.FreeDoors.{DryByWords, DryChosen, BookByWords, BookChosen, BookHere, Dry, Book, doors}

-- what a dry run and a booking are by each
dry-is : (r : FreeVolume) (at : Date) (b : Bundle) (o : Offer) → record_ok r ≡ true → Dry r at b o → o ≡ dry_run_of r at b
dry-is r at b o ok =
    ⊎_elim (λ (p : Answered (dry_run_of r at b) o). p)
    (⊎_elim (λ (p : Met (kept-dry-reads.Post tt (r, (at, (b, tt)))) o). p.1)
    (⊎_elim (λ (p : DryByWords r at b o). rw (← p.2, ← p.3, ← p.4) p.5.1)
    (λ (p : DryChosen r at b o). p.2 ∙ ap (λ (c : Chosen). c.offer) p.1.1 ∙ chosen-offer r at b ok)))

abbrev made : ℕ → FreeVolume → Booked
made n m = record { number = n; manager = m }

one : (x y : Booked) → x.number ≡ y.number → x.manager ≡ y.manager → x ≡ y
one x y e f = ap (λ (n : ℕ). made n x.manager) e ∙ ap (made y.number) f

chosen-books : (r : FreeVolume) (at : Date) (b : Bundle) (d : TxData) (x : Booked) → record_ok r ≡ true → BookChosen r at b d x → x ≡ book_of r at b d
chosen-books r at b d x ok (c, m, e) =
    let is = m.1 in
    ⊎_elim
    (λ (p : (refusal_of (strict_of r.contact) c.offer d ≡ 0 → ⊥) × (x ≡ refused_booking (refusal_of (strict_of r.contact) c.offer d) r)).
    p.1 ∙ rw is (sym (chosen-refused r at b ok d (rw is at p.0))))
    (λ (p : (refusal_of (strict_of r.contact) c.offer d ≡ 0)
    × ((k : Cut) × (n : Volume) × (Met (cut-reads.Post tt (r, (c.place, (d.send, (b.size, tt))))) k) × (Met (changed-reads.Post tt (r.room, (k.off, (k.on, tt)))) n) × (x ≡ record { number = k.number; manager = with_left r k.list n }))).
    let k = p.1.0 in
    let cut = p.1.2.1 in
    let done = (chosen-done r at b ok d (rw is at p.0)).0 in
    p.1.4 ∙ ap (λ (m : FreeVolume). record { number = k.number; manager = m }) (left_is r k p.1.1 cut.1 p.1.3.1) ∙ rw (cut.0, is) (sym done))
    e

here-books : (r : FreeVolume) (at : Date) (b : Bundle) (d : TxData) (x : Booked) → BookHere r at b d x → x ≡ book_of r at b d
here-books r at b d x (κs, a, e, t, came, when, bundle, dates, post, number, left) =
    let is : made (told t) e.0.now ≡ book_of r at b d = rw (← came, ← when, ← bundle, ← dates) post in
    one x (book_of r at b d) (sym number ∙ ap (λ (y : Booked). y.number) is) (sym left ∙ ap (λ (y : Booked). y.manager) is)

book-is : (r : FreeVolume) (at : Date) (b : Bundle) (d : TxData) (x : Booked) → record_ok r ≡ true → Book r at b d x → x ≡ book_of r at b d
book-is r at b d x ok =
    ⊎_elim (λ (p : Stored (book_of r at b d).number (book_of r at b d).manager x.number x.manager). one x (book_of r at b d) p.0 p.1)
    (⊎_elim (λ (p : Met (kept-book-reads.Post tt (r, (at, (b, (d, tt))))) x). p.1)
    (⊎_elim
    (λ (p : BookByWords r at b d x). one x (book_of r at b d) (rw (← p.3, ← p.4, ← p.5, ← p.6) p.7.0) (sym p.8 ∙ rw (← p.3, ← p.4, ← p.5, ← p.6) p.7.1.0))
    (⊎_elim
    (λ (p : BookChosen r at b d x). chosen-books r at b d x ok p)
    (λ (p : BookHere r at b d x). here-books r at b d x p))))

-- a run through any doors, call by call, is a run of the total calls
pub doors-run : (x y : State FreeVolume) → record_ok x.manager ≡ true → Runs doors x y → Runs promised x y
doors-run =
    run-into promised (λ r. record_ok r ≡ true) (λ r at b d a p ok. rw p.1 (book-keeps r at b d ok)) (λ r a p ok. absurd p) Dry Book (λ r o. Answered (list_of r) o) (λ r a. ⊥)
    (λ r ok at b o p. rw (dry-is r at b o ok p) (dry-run-met r at b))
    (λ r ok at b d a p. rw (book-is r at b d a ok p) (book-met r at b d))
    (λ r o p. rw p (list-met r))
    (λ r a p. p)

-- from an opening by hk_free_open on
module _ (h : Choices) (w : Interval) (rates : List RateSegment) (m : ℕ) (delays : List DelaySegment) (k : ℕ) (o : Opened) (y : State FreeVolume)
    (rate-size : length rates ≡ segments_max) (delay-size : length delays ≡ segments_max) (opens : Answered (open_of h w rates m delays k) o) (zero : o.number ≡ 0) (runs : RunsFrom doors o.manager y) where
  pub doors-reached : Reached h w rates m delays k y
  doors-reached =
      let ok : record_ok o.manager ≡ true = rw opens (opened-keeps h w rates m delays k rate-size delay-size (sym (ap (λ (x : Opened). x.number) opens) ∙ zero)) in
      record {
        opened = o;
        rate-size = rate-size;
        delay-size = delay-size;
        met = rw opens (open-met h w rates m delays k);
        accepted = zero;
        runs = doors-run _ y ok runs;
      }

  pub doors-demand-3 : DemandIn (contact_of h w rates m delays k) (listed y.manager.free) y.log
  doors-demand-3 = demand-3-opened doors-reached
