-- 02, R-7: what the flag forbids, and, over any manager, of which bookings 17 is answered and where it is out of reach.
use Prim.Native.Nat.{ℕ, ◌<◌}
use mathlib.Core.Bool.{Bool, true, false}
use mathlib.Core.Path.{◌≡◌, refl, ◌∙◌}
use native.Mathlib.Omega.{arith}
use borrow.Author.Tests.{eqb-true, eq-eqb, ne_eqb}
use Rattle.units.specs.declared.Interval.{Interval}
use Rattle.units.specs.declared.TxData.{TxData}
use Rattle.units.specs.declared.Offer.{Offer}
use Rattle.units.specs.Answer.{same_dates, offers, booking_of}
use Rattle.units.specs.Strict.{zero_length, forbids}
use Rattle.units.proofs.Logic.{no_both, both_go, both-stop, both-fst, both-snd}

-- off forbids nothing, on what has zero length
pub off-forbids : (send : Interval) → forbids 0 send ≡ false
unfolding forbids
off-forbids send = both-stop _ _ (ne_eqb 0 1 (λ z. omega arith))

pub on-forbids : (send : Interval) → forbids 1 send ≡ zero_length send
unfolding forbids
on-forbids send = both_go _ _ (eq-eqb 1 1 refl)

-- what is forbidden is so by the flag, and has zero length
module _ (strict : ℕ) (send : Interval) (e : forbids strict send ≡ true) where
  pub forbidden-strict : strict ≡ 1
  unfolding forbids
  forbidden-strict = eqb-true _ _ (both-fst _ _ e)

  pub forbidden-zero : send.start.0 ≡ send.end.0
  unfolding forbids
  forbidden-zero = eqb-true _ _ (both-snd _ _ e)

-- so what a strict record does not forbid has a length
pub strict-lasts : (strict : ℕ) (send : Interval) → strict ≡ 1 → forbids strict send ≡ false → send.start.0 ≡ send.end.0 → ⊥
unfolding forbids
strict-lasts strict send on free same = no_both (both_go _ _ (eq-eqb strict 1 on) ∙ eq-eqb _ _ same) free

-- what an offer says of the dates that it offers
record Same (o : Offer) (d : TxData) : Type 0 where
  number : o.number ≡ 0
  start : o.dates.send.start.0 ≡ d.send.start.0
  end : o.dates.send.end.0 ≡ d.send.end.0

offers-dates : (o : Offer) (d : TxData) → offers o d ≡ true → Same o d
unfolding offers same_dates
offers-dates o d e =
    let s = both-snd _ _ e in
    record { number = eqb-true _ _ (both-fst _ _ e); start = eqb-true _ _ (both-fst _ _ s); end = eqb-true _ _ (both-fst _ _ (both-snd _ _ s)) }

-- 17 is answered of what is offered and forbidden, on a record that keeps its rules and for a bundle inside its limits, and of nothing else
module _ {A : Type 0} (number : A → ℕ) (refuse : ℕ → A) (done : A) (by_number : (n : ℕ) → number (refuse n) ≡ n) (other : number done ≡ 17 → ⊥) where
  pub only-forbidden : (kept fits same forbidden : Bool) → number (booking_of kept fits same forbidden refuse done) ≡ 17 → (kept ≡ true) × (fits ≡ true) × (same ≡ true) × (forbidden ≡ true)
  only-forbidden true true true true e = (refl, refl, refl, refl)
  only-forbidden true true true false e = absurd (other e)
  only-forbidden true true false forbidden e = absurd (omega (arith, e, by_number 9))
  only-forbidden true false same forbidden e = absurd (omega (arith, e, by_number 2))
  only-forbidden false fits same forbidden e = absurd (omega (arith, e, by_number 1))

  -- so where every offer has a length it is out of reach
  pub never-17 : (kept fits : Bool) (strict : ℕ) (o : Offer) (d : TxData) → (o.number ≡ 0 → o.dates.send.start.0 < o.dates.send.end.0)
      → number (booking_of kept fits (offers o d) (forbids strict d.send) refuse done) ≡ 17 → ⊥
  never-17 kept fits strict o d lasts e =
      let h = only-forbidden kept fits (offers o d) (forbids strict d.send) e in
      let same = offers-dates o d h.2 in
      omega (arith, lasts same.number, same.start, same.end, forbidden-zero strict d.send h.3)
