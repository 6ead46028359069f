-- A booking by its dry run's answer: the order 2, 9, 17, then the booking itself is the answer's refusal, or the booking where it has none.
use Prim.Native.Nat.{ℕ}
use mathlib.Core.Bool.{Bool, true, false}
use mathlib.Core.Path.{◌≡◌, refl, sym, ap, ◌∙◌}
use native.Mathlib.Omega.{arith}
use lib.Dec.{eqb}
use borrow.Author.Tests.{eqb-true, eq-eqb, ne_eqb}
use Rattle.units.specs.declared.Offer.{Offer}
use Rattle.units.specs.declared.TxData.{TxData}
use Rattle.units.specs.Logic.{unless, pick}
use Rattle.units.specs.Answer.{refused, offers, booking_of}
use Rattle.units.specs.Strict.{forbids}
use Rattle.units.specs.Granted.{refusal_of}
use Rattle.units.proofs.Logic.{both-fst, unless-go, unless-stop, unless-keeps, pick-keeps}
use Rattle.units.proofs.Choice.{pick_yes, pick_no}

module _ (strict : ℕ) (o : Offer) (d : TxData) where
  pub refusal-two : o.number ≡ 2 → refusal_of strict o d ≡ 2
  unfolding refusal_of
  refusal-two e = pick_yes _ _ _ (eq-eqb _ _ e)

  refusal-else : (o.number ≡ 2 → ⊥) → (p q : Bool) → offers o d ≡ p → forbids strict d.send ≡ q → refusal_of strict o d ≡ unless {A = ℕ} p 9 (pick q 17 0)
  unfolding refusal_of
  refusal-else n p q e f =
      pick_no _ _ _ (ne_eqb _ _ n) ∙ ap (λ (t : Bool). unless t 9 (pick (forbids strict d.send) 17 0)) e ∙ ap (λ (t : Bool). unless p 9 (pick t 17 0)) f

  -- an offer's number is 0
  offers-zero : offers o d ≡ true → o.number ≡ 0
  unfolding offers
  offers-zero e = eqb-true _ _ (both-fst _ _ e)

zero-pick : (p q f : Bool) → pick {A = ℕ} p 2 (unless q 9 (pick f 17 0)) ≡ 0 → (q ≡ true) × (f ≡ false)
zero-pick true q f e = absurd (omega (arith, e))
zero-pick false true true e = absurd (omega (arith, e))
zero-pick false true false e = (refl, refl)
zero-pick false false f e = absurd (omega (arith, e))

-- what is not refused is offered, and the flag does not forbid it
pub refusal-none : (strict : ℕ) (o : Offer) (d : TxData) → refusal_of strict o d ≡ 0 → (offers o d ≡ true) × (forbids strict d.send ≡ false)
unfolding refusal_of
refusal-none strict o d e = zero-pick (eqb o.number 2) (offers o d) (forbids strict d.send) e

-- over any manager: its bundle's test, its answer's number 2 where that fails, its refusals and its booking
module _ {B : Type 0} (strict : ℕ) (o : Offer) (d : TxData) (fits : Bool) (refuse : ℕ → B) (done : B) (two : fits ≡ false → o.number ≡ 2) where
  -- the booking of a record that keeps its rules
  abbrev booking : B
  booking = booking_of true fits (offers o d) (forbids strict d.send) refuse done

  refused-by : (p q f : Bool) → fits ≡ p → offers o d ≡ q → forbids strict d.send ≡ f → (fits ≡ true → o.number ≡ 2 → ⊥) → (refusal_of strict o d ≡ 0 → ⊥)
      → booking ≡ refuse (refusal_of strict o d)
  refused-by false q f e g h other some = unless-stop _ _ _ e ∙ ap refuse (sym (refusal-two strict o d (two e)))
  refused-by true false f e g h other some =
      unless-go _ _ _ e ∙ unless-stop _ _ _ g ∙ ap refuse (sym (refusal-else strict o d (other e) false f g h))
  refused-by true true true e g h other some =
      unless-go _ _ _ e ∙ unless-go _ _ _ g ∙ pick_yes _ _ _ h ∙ ap refuse (sym (refusal-else strict o d (other e) true true g h))
  refused-by true true false e g h other some = absurd (some (refusal-else strict o d (other e) true false g h))

  pub booking-refused : (fits ≡ true → o.number ≡ 2 → ⊥) → (refusal_of strict o d ≡ 0 → ⊥) → booking_of true fits (offers o d) (forbids strict d.send) refuse done ≡ refuse (refusal_of strict o d)
  booking-refused other some = refused-by fits (offers o d) (forbids strict d.send) refl refl refl other some

  fits_by : (p : Bool) → fits ≡ p → offers o d ≡ true → fits ≡ true
  fits_by true e shows = e
  fits_by false e shows = absurd (omega (arith, two e, offers-zero strict o d shows))

  -- what is offered is so for a bundle inside its limits
  pub shown-fits : offers o d ≡ true → fits ≡ true
  shown-fits shows = fits_by fits refl shows

  module _ (none : refusal_of strict o d ≡ 0) where
    pub booking-fits : fits ≡ true
    booking-fits = shown-fits (refusal-none strict o d none).0

    pub booking-done : booking_of true fits (offers o d) (forbids strict d.send) refuse done ≡ done
    booking-done =
        let n = refusal-none strict o d none in
        unless-go _ _ _ booking-fits ∙ unless-go _ _ _ n.0 ∙ pick_no _ _ _ n.1

-- over any manager: what an answer of 0 to what was found has, where both tests pass, every offer of its dry run has
pub offer-keeps : (P : Offer → Type 0) (ok fits : Bool) (o : Offer) → (ok ≡ true → fits ≡ true → o.number ≡ 0 → P o)
    → (unless ok (refused 1) (unless fits (refused 2) o)).number ≡ 0 → P (unless ok (refused 1) (unless fits (refused 2) o))
offer-keeps P true true o h z = h refl refl z
offer-keeps P true false o h z = absurd (omega (arith, z))
offer-keeps P false fits o h z = absurd (omega (arith, z))

-- over any manager: what its refusals 1 and 2, and what it answers else, have, its dry run has; with 9, so has its booking
module _ {A : Type 0} (P : A → Type 0) (ok fits : Bool) (refuse : ℕ → A) (one : P (refuse 1)) (two : P (refuse 2)) where
  pub dry-run-keeps : (found : A) → (ok ≡ true → fits ≡ true → P found) → P (unless ok (refuse 1) (unless fits (refuse 2) found))
  dry-run-keeps found h = unless-keeps P ok _ _ (λ _. one) (λ o. unless-keeps P fits _ _ (λ _. two) (λ f. h o f))

  pub booking-keeps : (same forbidden : Bool) (done : A) → P (refuse 9) → P (refuse 17) → (ok ≡ true → fits ≡ true → same ≡ true → forbidden ≡ false → P done)
      → P (booking_of ok fits same forbidden refuse done)
  booking-keeps same forbidden done nine seventeen h =
      dry-run-keeps (unless same (refuse 9) (pick forbidden (refuse 17) done))
      (λ o f. unless-keeps P same _ _ (λ _. nine) (λ s. pick-keeps P forbidden _ _ (λ _. seventeen) (λ g. h o f s g)))
