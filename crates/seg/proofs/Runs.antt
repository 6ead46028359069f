-- After any calls from an opening on: the record keeps its rules, so no call on it answers 1; its contact, with all its choices, is the one that was opened.
use Prim.Native.Nat.{ℕ}
use mathlib.Core.Bool.{true}
use mathlib.Core.Path.{◌≡◌, refl, sym, ap, ◌∙◌}
use mathlib.Core.List.{List, ◌∷◌}
use mathlib.Core.Logic.{⊎_elim, inl, inr}
use native.Mathlib.Omega.{arith}
use Rattle.units.specs.declared.Date.{Date}
use Rattle.units.specs.declared.Interval.{Interval}
use Rattle.units.specs.declared.TxData.{TxData}
use Rattle.units.specs.declared.Bundle.{Bundle}
use Rattle.units.specs.Logged.{State, entry, Runs, Never}
use Rattle.units.proofs.Logic.{no_both}
use Rattle.units.proofs.Determined.{Met}
use Rattle.units.proofs.Logged.{run-accepted}
use Rattle.units.proofs.Tables.{tables-never}
use Rattle.segmentation.specs.declared.RateSegment.{RateSegment}
use Rattle.segmentation.specs.declared.DelaySegment.{DelaySegment}
use Rattle.segmentation.proofs.Answered.{answer-number as answered-number}
use Rattle.contact.specs.declared.Choices.{Choices}
use Rattle.contact.specs.Open.{contact_of}
use Rattle.contact.specs.Record.{delays_at}
use Rattle.free_list.specs.declared.Fit.{Fit}
use Rattle.std.specs.Prelude.{Option, Some, None}
use Rattle.seg.specs.declared.FreeVolume.{FreeVolume}
use Rattle.seg.specs.declared.Opened.{Opened}
use Rattle.seg.specs.declared.RoomLeft.{RoomLeft}
use Rattle.seg.specs.Record.{record_ok}
use Rattle.seg.specs.Open.{open_of}
use Rattle.seg.specs.DryRun.{found_of, answer_to}
use Rattle.seg.specs.Book.{book_of, refused_booking}
use Rattle.seg.specs.List.{list_of}
use Rattle.seg.specs.Room.{room_answer}
use Rattle.seg.proofs.Kept.{opened-keeps, opened-manager, Refused, Accepted, book-cases, book-keeps}
use Rattle.seg.proofs.Calls.{booked-number}
use Rattle.seg.proofs.Promised.{promised, tables, Reached}
use Rattle.seg.proofs.FreeVolume.room.Reads as room-reads

-- what every accepted booking keeps of records that keep their rules, any calls keep: a refused booking changes nothing
module _ (P : State FreeVolume → Type 0) (ok : (x : State FreeVolume) → P x → record_ok x.manager ≡ true)
    (step : (x : State FreeVolume) (q : P x) (at : Date) (b : Bundle) (d : TxData) → Accepted x.manager at b d (book_of x.manager at b d)
    → P (record { manager = (book_of x.manager at b d).manager; log = entry b d ∷ x.log })) where
  pub run-booked : (x y : State FreeVolume) → P x → Runs promised x y → P y
  run-booked =
      run-accepted promised P (λ r at b d a. (a ≡ book_of r at b d) × Accepted r at b d (book_of r at b d))
      (λ x q at b d a p.
      ⊎_elim
      (λ (r : Refused x.manager (book_of x.manager at b d)). inl (rw p.1 (r.number, r.same)))
      (λ (y : Accepted x.manager at b d (book_of x.manager at b d)). inr (rw p.1 y.number, (p.1, y)))
      (book-cases x.manager at b d (ok x q)))
      (λ x q at b d a y. rw y.0 (step x q at b d y.1))
      (λ r a p. p)

-- no call changes the contact
pub run-contact : (x y : State FreeVolume) → record_ok x.manager ≡ true → Runs promised x y → (record_ok y.manager ≡ true) × (y.manager.contact ≡ x.manager.contact)
run-contact x y ok runs =
    run-booked (λ z. (record_ok z.manager ≡ true) × (z.manager.contact ≡ x.manager.contact))
    (λ z q. q.0)
    (λ z q at b d k. (book-keeps z.manager at b d q.0, ap (λ (m : FreeVolume). m.contact) k.manager ∙ q.1))
    x y (ok, refl) runs

-- an answer's own numbers are 0, 7 and 8
answer-number : (r : FreeVolume) (n : ℕ) → (n ≡ 0 → ⊥) × (n ≡ 7 → ⊥) × (n ≡ 8 → ⊥) → (f : Option Fit) → (answer_to r f).number ≡ n → ⊥
answer-number r n other (Some x) h = answered-number n (other.0, other.2) _ _ (delays_at r.contact x.send.start.0 x.send.end.0) h
answer-number r n other None h = other.1 (sym h)

-- no call on a record that keeps its rules answers 1
module _ (r : FreeVolume) (ok : record_ok r ≡ true) where
  pub kept-never-1 : Never promised 1 r
  unfolding tables list_of
  kept-never-1 =
      tables-never promised refused_booking tables 1 r
      (λ no one. no_both ok no)
      (λ e. omega arith, λ e. omega arith, λ e. omega arith)
      (λ at b kept fits e. answer-number r 1 (λ z. omega arith, λ z. omega arith, λ z. omega arith) (found_of r at.0 b.size.0) e)
      (λ at b e. booked-number r 1 (λ z. omega arith, λ z. omega arith, λ z. omega arith) (found_of r at.0 b.size.0) b.size.0 e)
      (rw ok (λ e. omega arith))
      (λ a p e. p)

  pub room-never-1 : (o : RoomLeft) → Met (room-reads.Post tt (r, tt)) o → o.number ≡ 1 → ⊥
  unfolding room_answer
  room-never-1 o p e = let z : (room_answer r).number ≡ 0 = rw ok refl in omega (arith, e, z, ap (λ (x : RoomLeft). x.number) p.1)

-- from an opening on
module _ {h : Choices} {w : Interval} {rates : List RateSegment} {m : ℕ} {delays : List DelaySegment} {k : ℕ} {y : State FreeVolume} (q : Reached h w rates m delays k y) where
  pub fresh-none : (open_of h w rates m delays k).number ≡ 0
  fresh-none = sym (ap (λ (x : Opened). x.number) q.met.1) ∙ q.accepted

  pub fresh_ok : record_ok q.opened.manager ≡ true
  fresh_ok = rw q.met.1 (opened-keeps h w rates m delays k q.rate-size q.delay-size fresh-none)

  pub fresh-contact : q.opened.manager.contact ≡ contact_of h w rates m delays k
  fresh-contact = ap (λ (x : Opened). x.manager.contact) q.met.1 ∙ ap (λ (x : FreeVolume). x.contact) (opened-manager h w rates m delays k q.rate-size q.delay-size fresh-none).1

  -- the record keeps its rules
  pub reached-ok : record_ok y.manager ≡ true
  reached-ok = (run-contact _ y fresh_ok q.runs).0

  -- so no sequence of calls meets 1
  pub reached-never-1 : Never promised 1 y.manager
  reached-never-1 = kept-never-1 y.manager reached-ok

  -- window, rates, delays and choices are the opening's
  pub reached-contact : y.manager.contact ≡ contact_of h w rates m delays k
  reached-contact = (run-contact _ y fresh_ok q.runs).1 ∙ fresh-contact
