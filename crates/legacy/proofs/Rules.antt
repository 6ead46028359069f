-- The tests of the opening and of the record, one by one.
use Prim.Native.Nat.{ℕ}
use mathlib.Core.Bool.{Bool, true}
use mathlib.Core.Path.{◌≡◌, refl, ap, ◌∙◌}
use mathlib.Core.List.{List}
use lib.Dec.{leb, eqb}
use lib.ListN.{take, drop}
use Rattle.units.specs.declared.Volume.{Volume}
use Rattle.units.specs.declared.Rate.{Rate}
use Rattle.units.specs.declared.Delay.{Delay}
use Rattle.units.specs.declared.Interval.{Interval}
use Rattle.units.specs.Logic.{both, all_of}
use Rattle.units.specs.Limits.{delay_max, window_ok}
use Rattle.units.proofs.Choice.{both-assoc, done-unless}
use Rattle.legacy.specs.declared.Choices.{Choices}
use Rattle.legacy.specs.declared.Flags.{Flags}
use Rattle.legacy.specs.declared.Queue.{Queue}
use Rattle.legacy.specs.declared.Opened.{Opened}
use Rattle.legacy.specs.Choices.{choices_ok}
use Rattle.legacy.specs.Open.{at_most, is_zero, rate_ok, budgets_ok, open_of}
use Rattle.legacy.specs.Record.{queue_max, record_ok}

module _ (h : Choices) (w : Interval) (r : Rate) (d : Delay) (n : ℕ) (flags : Flags) (budgets : List Volume) where
  -- the opening's tests, before others
  abbrev pub opens_then : Bool → Bool
  opens_then also =
      both (choices_ok h) (both (window_ok w) (both (rate_ok w r.0) (both (leb d.0 delay_max) (both (budgets_ok n flags budgets) also))))

  pub open-tests : eqb (open_of h w r d n flags budgets).number 0 ≡ opens_then true
  unfolding open_of
  open-tests =
      let step = done-unless (λ (o : Opened). o.number) in
      step _ _ _ refl
      ∙ ap (both (choices_ok h))
      (step _ _ _ refl ∙ ap (both (window_ok w)) (step _ _ _ refl ∙ ap (both (rate_ok w r.0)) (step _ _ _ refl ∙ ap (both (leb d.0 delay_max)) (step _ _ _ refl))))

-- the record's tests in the order that the code takes
pub record-tests : (r : Queue)
    → record_ok r
    ≡ opens_then r.choices r.window r.rate r.delay r.classes r.flags r.budgets
    (both (all_of (at_most queue_max) (take r.classes r.queues)) (all_of is_zero (drop r.classes r.queues)))
unfolding record_ok both
record-tests r = rw (open-tests r.choices r.window r.rate r.delay r.classes r.flags r.budgets) (simp both-assoc)
