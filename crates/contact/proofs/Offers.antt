-- What dates that match an answer tell, by any lookup of the delays: a refusal offers none, and a send interval's answer offers that interval; what its number can be.
use Prim.Native.Nat.{ℕ}
use mathlib.Core.Bool.{true, false}
use mathlib.Core.Path.{◌≡◌, refl, ap, ◌∙◌}
use native.Mathlib.Omega.{arith}
use borrow.Author.Tests.{eqb-true, ne_eqb}
use Rattle.units.specs.declared.Interval.{Interval}
use Rattle.units.specs.declared.TxData.{TxData}
use Rattle.units.specs.Answer.{interval, refused, same_dates, offers}
use Rattle.units.proofs.Logic.{no_both, both-fst, both-snd, both-stop}
use Rattle.segmentation.specs.declared.Delays.{Delays}
use Rattle.std.specs.Prelude.{Option, Some, None}
use Rattle.segmentation.specs.Delay.{answer_of, answer_with}

pub refused-offers : (n : ℕ) (d : TxData) → (n ≡ 0 → ⊥) → offers (refused n) d ≡ false
unfolding offers
refused-offers n d h = both-stop _ _ (ne_eqb _ _ h)

answer-sends : (s e : ℕ) (x : Option Delays) (d : TxData) → offers (answer_of s e x) d ≡ true → interval s e ≡ d.send
unfolding offers same_dates
answer-sends s e (Some x) d h =
    let dates = both-snd _ _ h in
    ap (λ (n : ℕ). interval n e) (eqb-true _ _ (both-fst _ _ dates)) ∙ ap (interval d.send.start.0) (eqb-true _ _ (both-fst _ _ (both-snd _ _ dates)))
answer-sends s e None d h = absurd (no_both (both-fst _ _ h) refl)

pub offers-send : (find : ℕ → ℕ → Option Delays) (send : Interval) (d : TxData) → offers (answer_with find send) d ≡ true → send ≡ d.send
offers-send find send d h = answer-sends send.start.0 send.end.0 (find send.start.0 send.end.0) d h

answer-number : (s e : ℕ) (x : Option Delays) → (answer_of s e x).number ≡ 2 → ⊥
answer-number s e (Some x) h = omega (arith, h)
answer-number s e None h = omega (arith, h)

-- an answer to a send interval is 0 or 8
pub answer-not-two : (find : ℕ → ℕ → Option Delays) (send : Interval) → (answer_with find send).number ≡ 2 → ⊥
answer-not-two find send h = answer-number send.start.0 send.end.0 (find send.start.0 send.end.0) h
