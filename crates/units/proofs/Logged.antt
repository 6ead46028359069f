-- Over any manager: what every booking and further call keeps, any calls keep; so, what every accepted booking keeps; and calls that promise what others do have no other runs.
use mathlib.Core.Path.{◌≡◌}
use mathlib.Core.List.{◌∷◌}
use mathlib.Core.Logic.{⊎_elim, ◌⊎◌}
use borrow.Author.Tests.{eq-eqb, ne_eqb}
use Rattle.units.specs.declared.Date.{Date}
use Rattle.units.specs.declared.TxData.{TxData}
use Rattle.units.specs.declared.Bundle.{Bundle}
use Rattle.units.specs.declared.Offer.{Offer}
use Rattle.units.specs.Logged.{Calls, State, entry, booked, altered, promising, Runs, done, dry_run, list, book, further}

module _ (M : Calls) (P : State M.Manager → Type 0)
    (step : (x : State M.Manager) (at : Date) (b : Bundle) (d : TxData) (a : M.Booked) → M.book x.manager at b d a → P x → P (booked M b d a x))
    (other : (x : State M.Manager) (a : M.Booked) → M.further x.manager a → P x → P (altered M a x)) where
  pub run-keeps : (x y : State M.Manager) → P x → Runs M x y → P y
  run-keeps x y q done = q
  run-keeps x y q (dry_run at b o p rest) = run-keeps x y q rest
  run-keeps x y q (list o p rest) = run-keeps x y q rest
  run-keeps x y q (book at b d a p rest) = run-keeps (booked M b d a x) y (step x at b d a p q) rest
  run-keeps x y q (further a p rest) = run-keeps (altered M a x) y (other x a p q) rest

-- where a booking is accepted, or is refused and hands its record back, and there is no further call
module _ (M : Calls) (P : State M.Manager → Type 0) (Accepted : M.Manager → Date → Bundle → TxData → M.Booked → Type 0)
    (cases : (x : State M.Manager) → P x → (at : Date) (b : Bundle) (d : TxData) (a : M.Booked) → M.book x.manager at b d a
    → ((M.number a ≡ 0 → ⊥) × (M.after a ≡ x.manager)) ⊎ ((M.number a ≡ 0) × Accepted x.manager at b d a))
    (step : (x : State M.Manager) → P x → (at : Date) (b : Bundle) (d : TxData) (a : M.Booked) → Accepted x.manager at b d a → P (record { manager = M.after a; log = entry b d ∷ x.log }))
    (none : (r : M.Manager) (a : M.Booked) → M.further r a → ⊥) where
  pub run-accepted : (x y : State M.Manager) → P x → Runs M x y → P y
  run-accepted =
      run-keeps M P
      (λ x at b d a p q.
      ⊎_elim
      (λ (r : (M.number a ≡ 0 → ⊥) × (M.after a ≡ x.manager)). rw (r.1, ne_eqb (M.number a) 0 r.0) q)
      (λ (y : (M.number a ≡ 0) × Accepted x.manager at b d a). rw (eq-eqb (M.number a) 0 y.0) (step x q at b d a y.1))
      (cases x q at b d a p))
      (λ x a p q. absurd (none x.manager a p))

-- calls whose promises are no weaker, on records that keep their rules, have no other runs
module _ (M : Calls) (Ok : M.Manager → Type 0)
    (kept : (r : M.Manager) (at : Date) (b : Bundle) (d : TxData) (a : M.Booked) → M.book r at b d a → Ok r → Ok (M.after a))
    (kept-further : (r : M.Manager) (a : M.Booked) → M.further r a → Ok r → Ok (M.after a))
    (dry : M.Manager → Date → Bundle → Offer → Type 0) (books : M.Manager → Date → Bundle → TxData → M.Booked → Type 0) (lists : M.Manager → M.Listing → Type 0) (furthers : M.Manager → M.Booked → Type 0)
    (dry-into : (r : M.Manager) → Ok r → (at : Date) (b : Bundle) (o : Offer) → dry r at b o → M.dry_run r at b o)
    (book-into : (r : M.Manager) → Ok r → (at : Date) (b : Bundle) (d : TxData) (a : M.Booked) → books r at b d a → M.book r at b d a)
    (list-into : (r : M.Manager) (o : M.Listing) → lists r o → M.list r o)
    (further-into : (r : M.Manager) (a : M.Booked) → furthers r a → M.further r a) where
  pub run-into : (x y : State M.Manager) → Ok x.manager → Runs (promising M dry books lists furthers) x y → Runs M x y
  run-into x y ok done = done
  run-into x y ok (dry_run at b o p rest) = dry_run at b o (dry-into _ ok at b o p) (run-into x y ok rest)
  run-into x y ok (list o p rest) = list o (list-into _ o p) (run-into x y ok rest)
  run-into x y ok (book at b d a p rest) =
      let q = book-into _ ok at b d a p in
      book at b d a q (run-into (booked M b d a x) y (kept _ at b d a q ok) rest)
  run-into x y ok (further a p rest) =
      let q = further-into _ a p in
      further a q (run-into (altered M a x) y (kept-further _ a q ok) rest)
