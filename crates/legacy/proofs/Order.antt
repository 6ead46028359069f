-- An opening's number is the one beside the first test that fails: 2, 3, 6, 5, 14.
use Prim.Native.Nat.{ℕ}
use mathlib.Core.Path.{◌≡◌, refl}
use mathlib.Core.List.{List, [], ◌∷◌}
use lib.Dec.{leb}
use Rattle.units.specs.declared.Volume.{Volume}
use Rattle.units.specs.declared.Rate.{Rate}
use Rattle.units.specs.declared.Delay.{Delay}
use Rattle.units.specs.declared.Interval.{Interval}
use Rattle.units.specs.Limits.{window_ok, delay_max}
use Rattle.units.specs.Order.{◌if-not◌, first_failed}
use Rattle.units.proofs.Order.{unless-number, none_number}
use Rattle.legacy.specs.declared.Choices.{Choices}
use Rattle.legacy.specs.declared.Flags.{Flags}
use Rattle.legacy.specs.declared.Opened.{Opened}
use Rattle.legacy.specs.Choices.{choices_ok}
use Rattle.legacy.specs.Open.{rate_ok, budgets_ok, refused_opening, open_of}

pub open-number : (h : Choices) (w : Interval) (r : Rate) (d : Delay) (n : ℕ) (flags : Flags) (budgets : List Volume)
    → (open_of h w r d n flags budgets).number
    ≡ first_failed (2 if-not choices_ok h ∷ 3 if-not window_ok w ∷ 6 if-not rate_ok w r.0 ∷ 5 if-not leb d.0 delay_max ∷ 14 if-not budgets_ok n flags budgets ∷ []) 0
unfolding open_of
open-number h w r d n flags budgets =
    let number : Opened → ℕ = λ (o : Opened). o.number in
    unless-number number 2 0 (refused_opening 2) refl (choices_ok h) _ _
    (unless-number number 3 0 (refused_opening 3) refl (window_ok w) _ _
    (unless-number number 6 0 (refused_opening 6) refl (rate_ok w r.0) _ _
    (unless-number number 5 0 (refused_opening 5) refl (leb d.0 delay_max) _ _
    (unless-number number 14 0 (refused_opening 14) refl (budgets_ok n flags budgets) _ _ (none_number 0)))))
