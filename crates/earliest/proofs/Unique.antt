-- One answer is the earliest place: there is one least start, so one number and one start; and with the rest of it one answer.
use Prim.Native.Nat.{ℕ}
use mathlib.Core.Path.{◌≡◌, refl, sym, ap, ◌∙◌}
use mathlib.Core.Logic.{⊎_elim}
use native.Mathlib.Omega.{arith}
use Rattle.units.specs.declared.Date.{Date}
use Rattle.units.specs.declared.Bundle.{Bundle}
use Rattle.units.specs.declared.Offer.{Offer}
use Rattle.units.specs.Answer.{interval}
use Rattle.contact.specs.Record.{answer_in}
use Rattle.pseg.specs.declared.PrioritySeg.{PrioritySeg}
use Rattle.earliest.specs.Start.{Least}
use Rattle.earliest.specs.Earliest.{end_from, Earliest}
use Rattle.earliest.specs.Rest.{Rest}
use Rattle.earliest.proofs.Rule.{one_end}

-- there is one least
pub least-unique : (P : ℕ → Type 0) (s u : ℕ) → Least P s → Least P u → s ≡ u
least-unique P s u h k = omega (arith, h.least u k.is, k.least s h.is)

module _ (r : PrioritySeg) (at : Date) (b : Bundle) (o e : Offer) (h : Earliest r at b o) (k : Earliest r at b e) where
  same-offer : o.number ≡ 0 → (e.number ≡ 0) × (e.dates.send.start.0 ≡ o.dates.send.start.0)
  same-offer z = (k.offer o.dates.send.start.0).1 ((h.offer o.dates.send.start.0).0 (z, refl))

  same_none : o.number ≡ 7 → e.number ≡ 7
  same_none z = k.none.1 (h.none.0 z)

  pub earliest-unique : (o.number ≡ e.number) × (o.number ≡ 0 → o.dates.send.start.0 ≡ e.dates.send.start.0)
  earliest-unique = (
    ⊎_elim (λ (z : o.number ≡ 0). omega (arith, (same-offer z).0)) (λ (z : o.number ≡ 7). omega (arith, same_none z)) h.either,
    λ z. sym (same-offer z).1,
  )

  pub whole_unique : Rest r b o → Rest r b e → o ≡ e
  whole_unique x y =
      ⊎_elim
      (λ (z : o.number ≡ 0).
      let zero = (same-offer z).0 in
      let start = sym (same-offer z).1 in
      let end = one_end o.dates.send.end e.dates.send.end (end_from r b e.dates.send.start.0) (rw start at (x.ends z)) (y.ends zero) in
      let send : o.dates.send ≡ e.dates.send =
      ap (λ (n : ℕ). interval n o.dates.send.end.0) start ∙ ap (λ (n : ℕ). interval e.dates.send.start.0 n) end in
      x.receives z ∙ ap (answer_in r.contact) send ∙ sym (y.receives zero))
      (λ (z : o.number ≡ 7). x.zero z ∙ sym (y.zero (same_none z)))
      h.either
