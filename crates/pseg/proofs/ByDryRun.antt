-- A booking on a record that keeps its rules, by its dry run's answer: refused as the answer tells, else the dates' send interval is set.
use Prim.Native.Nat.{ℕ, ◌+◌, ◌≤◌}
use mathlib.Core.Bool.{true, false}
use mathlib.Core.Path.{◌≡◌, sym, ap, ◌∙◌}
use native.Mathlib.Omega.{arith}
use Rattle.units.specs.declared.Date.{Date}
use Rattle.units.specs.declared.Interval.{Interval}
use Rattle.units.specs.declared.TxData.{TxData}
use Rattle.units.specs.declared.Bundle.{Bundle}
use Rattle.units.specs.declared.Offer.{Offer}
use Rattle.units.specs.Limits.{priority_max, bundle_ok}
use Rattle.units.specs.Answer.{offers}
use Rattle.units.specs.Granted.{refusal_of}
use Rattle.std.specs.Prelude.{Ok, Err}
use Rattle.units.specs.declared.refusal.Refusal.{Refusal}
use Rattle.units.specs.Refusal.{number_of}
use Rattle.units.proofs.Refusals.{told-once}
use Rattle.units.proofs.Logic.{no_both}
use Rattle.units.proofs.Booking.{refusal-none, booking-refused, shown-fits, booking-done}
use Rattle.units.proofs.Loads.{asked-load, load}
use Rattle.contact.specs.Record.{delays_at, strict_of}
use Rattle.contact.proofs.Offers.{refused-offers, offers-send, answer-not-two}
use Rattle.bookings.specs.Search.{Run}
use Rattle.std.specs.declared.ops.ControlFlow.TheVariants.{Continue, Break}
use Rattle.bookings.specs.declared.Set.{Set}
use Rattle.bookings.specs.Cut.{set_bookings}
use Rattle.pseg.specs.declared.PrioritySeg.{PrioritySeg}
use Rattle.pseg.specs.declared.Booked.{Booked}
use Rattle.pseg.specs.Record.{record_ok}
use Rattle.pseg.specs.DryRun.{dry_run_of, run_of, answer_to}
use Rattle.pseg.specs.Book.{book_of, booked_of, booked_at, refused_booking}
use Rattle.pseg.proofs.Calls.{dry-bundle, dry-fits, book-kept}

-- where the bundle fits, the answer's number is 0, 7 or 8
run-not-two : (r : PrioritySeg) (x : Run) → (answer_to r x).number ≡ 2 → ⊥
run-not-two r (Break send) h = answer-not-two (delays_at r.contact) send h
run-not-two r (Continue now) h = omega (arith, h)

-- dates that match the answer are those of the run that was found
run-sends : (r : PrioritySeg) (x : Run) (d : TxData) → offers (answer_to r x) d ≡ true → x ≡ Break d.send
run-sends r (Break send) d h = ap (λ (i : Interval). Break i) (offers-send (delays_at r.contact) send d h)
run-sends r (Continue now) d h = absurd (no_both h (refused-offers 7 d (λ z. omega arith)))

-- a refusal's number is not 0
refused-some : (e : Refusal) → number_of e ≡ 0 → ⊥
refused-some e h = let same : Err e ≡ Ok tt = told-once (Err e) (Ok tt) h in cc

-- a setting's answer as a booking's
abbrev pub by-set : PrioritySeg → Set → Booked
by-set r x = record { number = x.number; manager = record { contact = r.contact; bookings = x.bookings } }

module _ (r : PrioritySeg) (at : Date) (b : Bundle) (d : TxData) (ok : record_ok r ≡ true) where
  abbrev strict : ℕ
  strict = strict_of r.contact

  abbrev done : Booked
  done = booked_at r (run_of r at.0 b) b.priority.0

  two : bundle_ok at b ≡ false → (dry_run_of r at b).number ≡ 2
  two e = ap (λ (o : Offer). o.number) (dry-bundle r at b ok e)

  not-two : bundle_ok at b ≡ true → (dry_run_of r at b).number ≡ 2 → ⊥
  not-two e h = run-not-two r (run_of r at.0 b) (rw (dry-fits r at b ok e) at h)

  -- a refused one
  pub dry-refused : (refusal_of (strict_of r.contact) (dry_run_of r at b) d ≡ 0 → ⊥) → book_of r at b d ≡ refused_booking (refusal_of (strict_of r.contact) (dry_run_of r at b) d) r
  dry-refused some =
      book-kept r at b ok d
      ∙ booking-refused strict (dry_run_of r at b) d (bundle_ok at b) (λ (n : ℕ). refused_booking n r) done two not-two some

  -- what the dry run's answer is refused by
  module _ (o : Offer) (is : o ≡ dry_run_of r at b) where
    pub check-done : 0 ≡ refusal_of (strict_of r.contact) o d → refusal_of (strict_of r.contact) (dry_run_of r at b) d ≡ 0
    check-done h = ap (λ (x : Offer). refusal_of strict x d) (sym is) ∙ sym h

    pub check-refused : (e : Refusal) → number_of e ≡ refusal_of (strict_of r.contact) o d → refused_booking (number_of e) r ≡ book_of r at b d
    check-refused e h =
        let told = h ∙ ap (λ (x : Offer). refusal_of strict x d) is in
        ap (λ (n : ℕ). refused_booking n r) told ∙ sym (dry-refused (λ z. refused-some e (told ∙ z)))

  -- dates that the dry run offers are the run that was found, for a bundle inside its limits
  module _ (same : offers (dry_run_of r at b) d ≡ true) where
    pub shown-bundled : bundle_ok at b ≡ true
    shown-bundled = shown-fits strict (dry_run_of r at b) d (bundle_ok at b) (λ (n : ℕ). refused_booking n r) done two same

    pub shown-found : run_of r at.0 b ≡ Break d.send
    shown-found = run-sends r (run_of r at.0 b) d (rw (dry-fits r at b ok shown-bundled) at same)

  module _ (none : refusal_of (strict_of r.contact) (dry_run_of r at b) d ≡ 0) where
    same : offers (dry_run_of r at b) d ≡ true
    same = (refusal-none strict (dry_run_of r at b) d none).0

    pub dry-bundled : bundle_ok at b ≡ true
    dry-bundled = shown-bundled same

    pub dry-found : run_of r at.0 b ≡ Break d.send
    dry-found = shown-found same

    -- one that is not refused
    pub dry-done : (book_of r at b d ≡ booked_of r d.send b.priority.0) × (b.priority.0 ≤ priority_max)
    dry-done = (
      book-kept r at b ok d
          ∙ booking-done strict (dry_run_of r at b) d (bundle_ok at b) (λ (n : ℕ). refused_booking n r) done two none
          ∙ ap (λ (x : Run). booked_at r x b.priority.0) dry-found,
      (load b (asked-load at b dry-bundled)).priority,
    )

    -- what is set is what is booked
    pub set-booked : (x : Set) → x ≡ set_bookings r.bookings d.send.start.0 d.send.end.0 (b.priority.0 + 1) → by-set r x ≡ book_of r at b d
    set-booked x e = ap (by-set r) e ∙ sym dry-done.0
