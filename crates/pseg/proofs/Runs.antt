-- After any calls from an opening on: the record keeps its rules, so no call on it answers 1; its contact, with all its choices, is the one that was opened.
use Prim.Native.Nat.{ℕ}
use mathlib.Core.Bool.{true}
use mathlib.Core.Path.{◌≡◌, refl, sym, ap, ◌∙◌}
use mathlib.Core.List.{List, ◌∷◌}
use mathlib.Core.Logic.{⊎_elim, inl, inr}
use native.Mathlib.Omega.{arith}
use Rattle.units.specs.declared.Date.{Date}
use Rattle.units.specs.declared.Interval.{Interval}
use Rattle.units.specs.declared.TxData.{TxData}
use Rattle.units.specs.declared.Bundle.{Bundle}
use Rattle.units.specs.Logged.{State, entry, Runs, Never}
use Rattle.units.proofs.Logic.{no_both}
use Rattle.units.proofs.Logged.{run-accepted}
use Rattle.units.proofs.Tables.{tables-never}
use Rattle.segmentation.specs.declared.RateSegment.{RateSegment}
use Rattle.segmentation.specs.declared.DelaySegment.{DelaySegment}
use Rattle.segmentation.proofs.Answered.{answer-number as answered-number}
use Rattle.contact.specs.declared.Choices.{Choices}
use Rattle.contact.specs.Open.{contact_of}
use Rattle.contact.specs.Record.{delays_at}
use Rattle.bookings.specs.Search.{Run}
use Rattle.std.specs.declared.ops.ControlFlow.TheVariants.{Continue, Break}
use Rattle.pseg.specs.declared.PrioritySeg.{PrioritySeg}
use Rattle.pseg.specs.declared.Opened.{Opened}
use Rattle.pseg.specs.Record.{record_ok}
use Rattle.pseg.specs.Open.{open_of}
use Rattle.pseg.specs.DryRun.{run_of, answer_to}
use Rattle.pseg.specs.Book.{book_of, refused_booking}
use Rattle.pseg.specs.List.{list_of}
use Rattle.pseg.proofs.Kept.{opened-keeps, opened-manager, Refused, Accepted, book-cases, book-keeps}
use Rattle.pseg.proofs.Calls.{booked-number}
use Rattle.pseg.proofs.Promised.{promised, tables, Reached}

-- what every accepted booking keeps of records that keep their rules, any calls keep: a refused booking changes nothing
module _ (P : State PrioritySeg → Type 0) (ok : (x : State PrioritySeg) → P x → record_ok x.manager ≡ true)
    (step : (x : State PrioritySeg) (q : P x) (at : Date) (b : Bundle) (d : TxData) → Accepted x.manager at b d (book_of x.manager at b d)
    → P (record { manager = (book_of x.manager at b d).manager; log = entry b d ∷ x.log })) where
  pub run-booked : (x y : State PrioritySeg) → P x → Runs promised x y → P y
  run-booked =
      run-accepted promised P (λ r at b d a. (a ≡ book_of r at b d) × Accepted r at b d (book_of r at b d))
      (λ x q at b d a p.
      ⊎_elim
      (λ (r : Refused x.manager (book_of x.manager at b d)). inl (rw p.1 (r.number, r.same)))
      (λ (y : Accepted x.manager at b d (book_of x.manager at b d)). inr (rw p.1 y.number, (p.1, y)))
      (book-cases x.manager at b d (ok x q)))
      (λ x q at b d a y. rw y.0 (step x q at b d y.1))
      (λ r a p. p)

-- no call changes the contact
pub run-contact : (x y : State PrioritySeg) → record_ok x.manager ≡ true → Runs promised x y → (record_ok y.manager ≡ true) × (y.manager.contact ≡ x.manager.contact)
run-contact x y ok runs =
    run-booked (λ z. (record_ok z.manager ≡ true) × (z.manager.contact ≡ x.manager.contact))
    (λ z q. q.0)
    (λ z q at b d k. (book-keeps z.manager at b d q.0, ap (λ (m : PrioritySeg). m.contact) k.manager ∙ q.1))
    x y (ok, refl) runs

-- an answer's own numbers are 0, 7 and 8
answer-number : (r : PrioritySeg) (n : ℕ) → (n ≡ 0 → ⊥) × (n ≡ 7 → ⊥) × (n ≡ 8 → ⊥) → (x : Run) → (answer_to r x).number ≡ n → ⊥
answer-number r n other (Break send) h = answered-number n (other.0, other.2) _ _ (delays_at r.contact send.start.0 send.end.0) h
answer-number r n other (Continue now) h = other.1 (sym h)

-- no call on a record that keeps its rules answers 1
module _ (r : PrioritySeg) (ok : record_ok r ≡ true) where
  pub kept-never-1 : Never promised 1 r
  unfolding tables list_of
  kept-never-1 =
      tables-never promised refused_booking tables 1 r
      (λ no one. no_both ok no)
      (λ e. omega arith, λ e. omega arith, λ e. omega arith)
      (λ at b kept fits e. answer-number r 1 (λ z. omega arith, λ z. omega arith, λ z. omega arith) (run_of r at.0 b) e)
      (λ at b e. booked-number r 1 (λ z. omega arith, λ z. omega arith, λ z. omega arith) (run_of r at.0 b) b.priority.0 e)
      (rw ok (λ e. omega arith))
      (λ a p e. p)

-- from an opening on
module _ {h : Choices} {w : Interval} {rates : List RateSegment} {m : ℕ} {delays : List DelaySegment} {k : ℕ} {y : State PrioritySeg} (q : Reached h w rates m delays k y) where
  pub fresh-none : (open_of h w rates m delays k).number ≡ 0
  fresh-none = sym (ap (λ (x : Opened). x.number) q.met.1) ∙ q.accepted

  pub fresh_ok : record_ok q.opened.manager ≡ true
  fresh_ok = rw q.met.1 (opened-keeps h w rates m delays k fresh-none q.rate-size q.delay-size)

  pub fresh-contact : q.opened.manager.contact ≡ contact_of h w rates m delays k
  fresh-contact = ap (λ (x : Opened). x.manager.contact) q.met.1 ∙ ap (λ (x : PrioritySeg). x.contact) (opened-manager h w rates m delays k fresh-none).1

  -- the record keeps its rules
  pub reached-ok : record_ok y.manager ≡ true
  reached-ok = (run-contact _ y fresh_ok q.runs).0

  -- so no sequence of calls meets 1
  pub reached-never-1 : Never promised 1 y.manager
  reached-never-1 = kept-never-1 y.manager reached-ok

  -- window, rates, delays and choices are the opening's
  pub reached-contact : y.manager.contact ≡ contact_of h w rates m delays k
  reached-contact = (run-contact _ y fresh_ok q.runs).1 ∙ fresh-contact
