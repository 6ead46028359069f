-- Demand 3: from a fresh opening on, any calls with any answers that the manager's promises allow keep it.
use Prim.Native.Nat.{ℕ}
use mathlib.Core.Bool.{true}
use mathlib.Core.Path.{◌≡◌, refl, sym, ap, ◌∙◌}
use mathlib.Core.List.{List, [], ◌∷◌}
use native.Mathlib.Omega.{arith}
use mathlib.Core.Logic.{⊎_elim}
use lib.ListN.{length}
use borrow.Author.Tests.{eq-eqb, ne_eqb}
use Rattle.units.specs.Limits.{segments_max}
use Rattle.units.specs.declared.Date.{Date}
use Rattle.units.proofs.Numbers.{eq-or-ne}
use Rattle.segmentation.specs.Capacity.{top_of}
use Rattle.contact.specs.declared.Choices.{Choices}
use Rattle.units.specs.declared.Interval.{Interval}
use Rattle.units.specs.declared.TxData.{TxData}
use Rattle.units.specs.declared.Bundle.{Bundle}
use Rattle.units.specs.declared.Offer.{Offer}
use Rattle.units.proofs.Determined.{Met}
use Rattle.segmentation.specs.declared.RateSegment.{RateSegment}
use Rattle.segmentation.specs.declared.DelaySegment.{DelaySegment}
use Rattle.contact.specs.Record.{rates_of, edition_of}
use Rattle.seg.specs.declared.FreeVolume.{FreeVolume}
use Rattle.seg.specs.declared.Opened.{Opened}
use Rattle.seg.specs.declared.Booked.{Booked}
use Rattle.seg.specs.declared.Listing.{Listing}
use Rattle.seg.specs.Record.{record_ok}
use Rattle.seg.specs.Book.{book_of}
use Rattle.seg.proofs.Kept.{opened-keeps, Refused, Accepted, book-cases, book-keeps}
use Rattle.seg.proofs.Second.{opened-edition}
use Rattle.seg.proofs.FreeVolume.open.Reads as open-reads
use Rattle.seg.proofs.FreeVolume.dry_run.Reads as dry-run-reads
use Rattle.seg.proofs.FreeVolume.book.Reads as book-reads
use Rattle.seg.proofs.FreeVolume.list.Reads as list-reads
use Rattle.demand.specs.Calls.{State, Promises, Runs, done, dry_run, list, book, entry, logged}
use Rattle.demand.specs.Instants.{AllClear, Pairwise, AllIn, size_sum, Demand}
use Rattle.demand.proofs.Held.{cap_sum, held-sum}
use Rattle.demand.proofs.Keeping.{Sums, Keeping, accepted-keeps}

-- the promises of the manager's calls, as src/ has them
pub promised : Promises
promised =
    record {
      dry_run = λ r at b o. Met (dry-run-reads.Post tt (r, (at, (b, tt)))) o;
      book = λ r at b d a. Met (book-reads.Post tt (r, (at, (b, (d, tt))))) a;
      list = λ r o. Met (list-reads.Post tt (r, tt)) o;
    }

-- each is what src/ has
pub promises-dry-run : (r : FreeVolume) (at : Date) (b : Bundle) (o : Offer) → Met (dry-run-reads.Post tt (r, (at, (b, tt)))) o → promised.dry_run r at b o
unfolding promised
promises-dry-run r at b o p = p

pub promises-book : (r : FreeVolume) (at : Date) (b : Bundle) (d : TxData) (a : Booked) → Met (book-reads.Post tt (r, (at, (b, (d, tt))))) a → promised.book r at b d a
unfolding promised
promises-book r at b d a p = p

pub promises-list : (r : FreeVolume) (o : Listing) → Met (list-reads.Post tt (r, tt)) o → promised.list r o
unfolding promised
promises-list r o p = p

-- what every booking keeps, any calls keep
module _ (P : State → Type 0) (step : (x : State) (at : Date) (b : Bundle) (d : TxData) (a : Booked) → a ≡ book_of x.manager at b d → P x → P (record { manager = a.manager; log = logged b d a x.log })) where
  run-all : (x y : State) → P x → Runs promised x y → P y
  unfolding promised
  run-all x y q done = q
  run-all x y q (dry_run at b o p rest) = run-all x y q rest
  run-all x y q (list o p rest) = run-all x y q rest
  run-all x y q (book at b d a p rest) = run-all _ y (step x at b d a p.1 q) rest

-- so, of records that keep their rules, what every accepted booking keeps: a refused one changes nothing
module _ (P : State → Type 0) (ok : (x : State) → P x → record_ok x.manager ≡ true)
    (step : (x : State) (q : P x) (at : Date) (b : Bundle) (d : TxData) → Accepted x.manager at b d (book_of x.manager at b d)
    → P (record { manager = (book_of x.manager at b d).manager; log = entry b d ∷ x.log })) where
  pub run-accepted : (x y : State) → P x → Runs promised x y → P y
  run-accepted =
      run-all P
      (λ x at b d a is q.
      rw is
      (⊎_elim
      (λ (r : Refused x.manager (book_of x.manager at b d)). rw (r.same, ne_eqb (book_of x.manager at b d).number 0 r.number) q)
      (λ (y : Accepted x.manager at b d (book_of x.manager at b d)). rw (eq-eqb (book_of x.manager at b d).number 0 y.number) (step x q at b d y))
      (book-cases x.manager at b d (ok x q))))

-- no call changes the contact, nor the edition that it names
pub run-contact : (x y : State) → record_ok x.manager ≡ true → Runs promised x y → y.manager.contact ≡ x.manager.contact
run-contact x y ok runs =
    (run-accepted (λ z. (record_ok z.manager ≡ true) × (z.manager.contact ≡ x.manager.contact))
    (λ z q. q.0)
    (λ z q at b d k. (book-keeps z.manager at b d q.0, ap (λ (m : FreeVolume). m.contact) k.manager ∙ q.1))
    x y (ok, refl) runs).1

run-keeps : (x y : State) → Keeping x → Runs promised x y → Keeping y
run-keeps = run-accepted Keeping (λ x q. q.ok) accepted-keeps

no-sums : (k r : ℕ) → Sums k r 0 0 0
no-sums k r =
    ⊎_elim
    (λ (two : k ≡ 2). rw (eq-eqb k 2 two) (omega arith, omega arith))
    (λ (one : k ≡ 2 → ⊥). rw (ne_eqb k 2 one) (omega arith, omega arith))
    (eq-or-ne k 2)

fresh : (o : Opened) → record_ok o.manager ≡ true → Keeping (record { manager = o.manager; log = [] })
unfolding AllClear Pairwise AllIn cap_sum size_sum
fresh o e = record { ok = e; apart = tt; clear = tt; inside = tt; sums = no-sums (edition_of o.manager.contact) (top_of (rates_of o.manager.contact)) }

keeping-demand : (x : State) → Keeping x → Demand x
keeping-demand x q =
    let c = x.manager.contact in
    let e = held-sum (rates_of c) c.window x.log q.inside q.apart in
    let k = edition_of c in
    record {
      apart = q.apart;
      clear = q.clear;
      inside = q.inside;
      first = λ (one : k ≡ 1). rw e (rw (ne_eqb k 2 (λ (z : k ≡ 2). omega arith)) at q.sums);
      second = λ (two : k ≡ 2). rw e (rw (eq-eqb k 2 two) at q.sums);
    }

pub demand-3 : (h : Choices) (w : Interval) (rates : List RateSegment) (m : ℕ) (delays : List DelaySegment) (k : ℕ) (o : Opened) (y : State)
    → length rates ≡ segments_max → length delays ≡ segments_max
    → Met (open-reads.Post tt (h, (w, (rates, (m, (delays, (k, tt))))))) o → o.number ≡ 0
    → Runs promised (record { manager = o.manager; log = [] }) y
    → Demand y
demand-3 h w rates m delays k o y rate-size delay-size p zero runs =
    let is = p.1 in
    let ok : record_ok o.manager ≡ true = rw is (opened-keeps h w rates m delays k rate-size delay-size (sym (ap (λ (x : Opened). x.number) is) ∙ zero)) in
    keeping-demand y (run-keeps _ y (fresh o ok) runs)

-- the edition chosen at the opening is the record's, whatever is called
pub edition-kept : (h : Choices) (w : Interval) (rates : List RateSegment) (m : ℕ) (delays : List DelaySegment) (k : ℕ) (o : Opened) (y : State)
    → length rates ≡ segments_max → length delays ≡ segments_max
    → Met (open-reads.Post tt (h, (w, (rates, (m, (delays, (k, tt))))))) o → o.number ≡ 0
    → Runs promised (record { manager = o.manager; log = [] }) y
    → edition_of y.manager.contact ≡ h.edition.0
edition-kept h w rates m delays k o y rate-size delay-size p zero runs =
    let is = p.1 in
    let none = sym (ap (λ (x : Opened). x.number) is) ∙ zero in
    let ok : record_ok o.manager ≡ true = rw is (opened-keeps h w rates m delays k rate-size delay-size none) in
    let named : edition_of o.manager.contact ≡ h.edition.0 = rw is (opened-edition h w rates m delays k rate-size delay-size none) in
    ap edition_of (run-contact _ y ok runs) ∙ named
