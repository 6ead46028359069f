-- 02, R-7: strict records opened fresh never list an empty segment, after any calls, nor do those under edition 2; so R-8's condition holds for them unasked.
use Prim.Native.Nat.{ℕ, ◌<◌}
use mathlib.Core.Bool.{true}
use mathlib.Core.Path.{◌≡◌, sym, ap, ◌∙◌}
use mathlib.Core.List.{List}
use mathlib.Core.Logic.{⊎_elim, ◌⊎◌}
use lib.ListN.{length}
use Rattle.units.specs.Limits.{segments_max, bundle_ok}
use Rattle.units.specs.declared.Date.{Date}
use Rattle.units.specs.declared.Interval.{Interval}
use Rattle.units.specs.declared.TxData.{TxData}
use Rattle.units.specs.declared.Bundle.{Bundle}
use Rattle.units.specs.declared.Offer.{Offer}
use Rattle.units.specs.Calls.{Runs}
use Rattle.units.proofs.Determined.{Met}
use Rattle.units.proofs.Runs.{run-keeps}
use Rattle.segmentation.specs.declared.RateSegment.{RateSegment}
use Rattle.segmentation.specs.declared.DelaySegment.{DelaySegment}
use Rattle.contact.specs.declared.Choices.{Choices}
use Rattle.contact.specs.declared.Contact.{Contact}
use Rattle.contact.specs.Open.{contact_of}
use Rattle.contact.specs.Record.{Lasts}
use Rattle.contact.proofs.Lasting.{lasts-holds}
use Rattle.bookings.specs.Listed.{listed}
use Rattle.pseg.specs.declared.PrioritySeg.{PrioritySeg}
use Rattle.pseg.specs.declared.Opened.{Opened}
use Rattle.pseg.specs.Record.{record_ok}
use Rattle.pseg.specs.Book.{book_of}
use Rattle.bookings.proofs.CutLoop.{listed_in}
use Rattle.pseg.proofs.Facts.{facts, found-ends}
use Rattle.pseg.proofs.Kept.{opened-manager, opened-keeps, Refused, Accepted, set_listed, book-cases, book-keeps}
use Rattle.pseg.proofs.Second.{found_after}
use Rattle.pseg.proofs.Strict.{promised}
use Rattle.pseg.proofs.PrioritySeg.open.Reads as open-reads
use Rattle.pseg.proofs.PrioritySeg.dry_run.Reads as dry-run-reads
use Rattle.earliest.specs.Earliest.{NoEmpty, Earliest}
use Rattle.earliest.specs.Rest.{Rest}
use Rattle.earliest.proofs.Filled.{set-filled, opened-filled}
use Rattle.earliest.proofs.Calls.{earliest}

-- what any calls keep of such a record
record Filling (c : Contact) (r : PrioritySeg) : Type 0 where
  ok : record_ok r ≡ true
  same : r.contact ≡ c
  none : NoEmpty r

module _ (c : Contact) (last : Lasts c) where
  module _ (r : PrioritySeg) (q : Filling c r) (at : Date) (b : Bundle) (d : TxData) where
    lasts : Lasts r.contact
    lasts = rw q.same last

    -- an accepted send holds an instant
    accepted-holds : Accepted r at b d (book_of r at b d) → d.send.start.0 < d.send.end.0
    accepted-holds x =
        let fs = facts r q.ok in
        lasts-holds r.contact d.send lasts (found-ends r fs at.0 b d.send x.found x.some).forth x.allowed
        (λ two. found_after r fs two at.0 b x.some d.send x.found)

    booked-filled : NoEmpty (book_of r at b d).manager
    booked-filled =
        ⊎_elim
        (λ (x : Refused r (book_of r at b d)). rw x.same q.none)
        (λ (x : Accepted r at b d (book_of r at b d)).
        rw (x.manager, listed_in (set_listed r b d)) (set-filled _ _ _ (accepted-holds x) (listed r.bookings) q.none))
        (book-cases r at b d q.ok)

    booked-contact : (book_of r at b d).manager.contact ≡ c
    booked-contact =
        ⊎_elim
        (λ (x : Refused r (book_of r at b d)). ap (λ (m : PrioritySeg). m.contact) x.same ∙ q.same)
        (λ (x : Accepted r at b d (book_of r at b d)). ap (λ (m : PrioritySeg). m.contact) x.manager ∙ q.same)
        (book-cases r at b d q.ok)

    booked-filling : Filling c (book_of r at b d).manager
    booked-filling = record { ok = book-keeps r at b d q.ok; same = booked-contact; none = booked-filled }

  run-filling : (r s : PrioritySeg) → Filling c r → Runs promised r s → Filling c s
  run-filling = run-keeps promised (Filling c) (λ r at b d a p q. rw p.1 (booked-filling r q at b d))

module _ (h : Choices) (w : Interval) (rates : List RateSegment) (m : ℕ) (delays : List DelaySegment) (k : ℕ) (o : Opened) (s : PrioritySeg)
    (rate-size : length rates ≡ segments_max) (delay-size : length delays ≡ segments_max)
    (p : Met (open-reads.Post tt (h, (w, (rates, (m, (delays, (k, tt))))))) o) (zero : o.number ≡ 0)
    (last : (h.strict.0 ≡ 1) ⊎ (h.edition.0 ≡ 2)) (runs : Runs promised o.manager s) where
  after : Filling (contact_of h w rates m delays k) s
  after =
      let is = p.1 in
      let none = sym (ap (λ (x : Opened). x.number) is) ∙ zero in
      run-filling (contact_of h w rates m delays k) last o.manager s
      (record {
        ok = rw is (opened-keeps h w rates m delays k none rate-size delay-size);
        same = ap (λ (x : Opened). x.manager.contact) is ∙ ap (λ (x : PrioritySeg). x.contact) (opened-manager h w rates m delays k none).1;
        none = rw is (opened-filled h w rates m delays k rate-size delay-size none);
      })
      runs

  pub never-empty : NoEmpty s
  never-empty = after.none

  -- and so every dry run on it is told the earliest place, nothing being asked of its list
  pub always-earliest : (at : Date) (b : Bundle) → bundle_ok at b ≡ true → (x : Offer) → Met (dry-run-reads.Post tt (s, (at, (b, tt)))) x → (Earliest s at b x) × (Rest s b x)
  always-earliest at b fits x q = earliest s at b after.ok never-empty fits x q
