-- What the record's test tells: the window, the rate, the delay, the class count, and every queue and budget are inside their limits.
use Prim.Native.Nat.{ℕ, zero, suc, ◌-◌, ◌*◌, ◌≤◌}
use mathlib.Core.Bool.{true}
use mathlib.Core.Path.{◌≡◌, sym, ◌∙◌}
use mathlib.Core.List.{List, [], ◌∷◌}
use native.Mathlib.Omega.{arith}
use lib.ListN.{take, drop, get_or}
use borrow.Author.Tests.{leb-true, le-leb, eqb-true, eq-eqb}
use Rattle.units.specs.Limits.{volume_max, rate_max, delay_max}
use Rattle.units.specs.declared.Volume.{Volume}
use Rattle.units.specs.declared.Rate.{Rate}
use Rattle.units.specs.declared.Delay.{Delay}
use Rattle.units.specs.declared.Interval.{Interval}
use Rattle.units.specs.Logic.{pick, all_of}
use Rattle.units.proofs.Logic.{both-fst, both-snd, all_go, all_none, all_head, all_tail}
use Rattle.units.proofs.Windows.{Window, window}
use Rattle.legacy.specs.declared.Choices.{Choices}
use Rattle.legacy.specs.declared.Flags.{Flags}
use Rattle.legacy.specs.declared.Queue.{Queue}
use Rattle.legacy.specs.Open.{classes_max, budget_max, at_most, is_zero, rate_ok, budgets_ok, open_of}
use Rattle.legacy.specs.Record.{queue_max, record_ok}
use Rattle.legacy.proofs.Rules.{open-tests, record-tests}

pub record Sound (r : Queue) : Type 0 where
  pub window : Window r.window
  pub some : 1 ≤ r.rate.0
  pub slow : r.rate.0 ≤ rate_max
  pub total : (r.window.end.0 - r.window.start.0) * r.rate.0 ≤ volume_max
  pub delay : r.delay.0 ≤ delay_max
  pub one : 1 ≤ r.classes
  pub eight : r.classes ≤ classes_max
  pub queue : (k : ℕ) → (get_or r.queues k (record { 0 = 0 })).0 ≤ queue_max
  pub budget : (k : ℕ) → (get_or r.budgets k (record { 0 = 0 })).0 ≤ budget_max

-- the first n at most m, and zero from there on: at most m at every place
pub everywhere : (m n : ℕ) (l : List Volume) (k : ℕ) → all_of (at_most m) (take n l) ≡ true → all_of is_zero (drop n l) ≡ true → (get_or l k (record { 0 = 0 })).0 ≤ m
everywhere m n [] k e z = omega arith
everywhere m zero (v ∷ l) zero e z = omega (arith, eqb-true v.0 0 (all_head is_zero v l z))
everywhere m zero (v ∷ l) (suc k) e z = everywhere m zero l k e (all_tail is_zero v l z)
everywhere m (suc n) (v ∷ l) zero e z = leb-true v.0 m (all_head (at_most m) v _ e)
everywhere m (suc n) (v ∷ l) (suc k) e z = everywhere m n l k (all_tail (at_most m) v _ e) z

-- at most m at every place: so is each of the first j
pub first-low : (m : ℕ) (l : List Volume) → ((k : ℕ) → (get_or l k (record { 0 = 0 })).0 ≤ m) → (j : ℕ) → all_of (at_most m) (take j l) ≡ true
first-low m l h zero = all_none (at_most m)
first-low m [] h (suc j) = all_none (at_most m)
first-low m (v ∷ l) h (suc j) = all_go (at_most m) v (take j l) (le-leb v.0 m (h 0)) ∙ first-low m l (λ k. h (suc k)) j

pub record Rated (w : Interval) (r : ℕ) : Type 0 where
  pub some : 1 ≤ r
  pub slow : r ≤ rate_max
  pub total : (w.end.0 - w.start.0) * r ≤ volume_max

pub rated : (w : Interval) (r : ℕ) → rate_ok w r ≡ true → Rated w r
unfolding rate_ok
rated w r e =
    let rest = both-snd _ _ e in
    record { some = leb-true _ _ (both-fst _ _ e); slow = leb-true _ _ (both-fst _ _ rest); total = leb-true _ _ (both-snd _ _ rest) }

pub record Budgeted (n : ℕ) (l : List Volume) : Type 0 where
  pub one : 1 ≤ n
  pub eight : n ≤ classes_max
  pub budget : (k : ℕ) → (get_or l k (record { 0 = 0 })).0 ≤ budget_max

pub budgeted : (n : ℕ) (flags : Flags) (l : List Volume) → budgets_ok n flags l ≡ true → Budgeted n l
unfolding budgets_ok
budgeted n flags l e =
    let rest = both-snd _ _ e in
    let places = both-snd _ _ rest in
    record {
      one = leb-true _ _ (both-fst _ _ e);
      eight = leb-true _ _ (both-fst _ _ rest);
      budget = λ k. everywhere budget_max (pick flags.budgeted n 0) l k (both-fst _ _ places) (both-snd _ _ places);
    }

-- an opening that is done has at most eight classes
pub opened-eight : (h : Choices) (w : Interval) (r : Rate) (d : Delay) (n : ℕ) (flags : Flags) (budgets : List Volume) → (open_of h w r d n flags budgets).number ≡ 0 → n ≤ classes_max
opened-eight h w r d n flags budgets e =
    let tests = sym (open-tests h w r d n flags budgets) ∙ eq-eqb _ _ e in
    (budgeted _ _ _ (both-fst _ _ (both-snd _ _ (both-snd _ _ (both-snd _ _ (both-snd _ _ tests)))))).eight

pub sound : (r : Queue) → record_ok r ≡ true → Sound r
sound r e =
    let e1 = both-snd _ _ (sym (record-tests r) ∙ e) in
    let e2 = both-snd _ _ e1 in
    let e3 = both-snd _ _ e2 in
    let e4 = both-snd _ _ e3 in
    let e5 = both-snd _ _ e4 in
    let rates = rated _ _ (both-fst _ _ e2) in
    let budgets = budgeted _ _ _ (both-fst _ _ e4) in
    record {
      window = window _ (both-fst _ _ e1);
      some = rates.some;
      slow = rates.slow;
      total = rates.total;
      delay = leb-true _ _ (both-fst _ _ e3);
      one = budgets.one;
      eight = budgets.eight;
      queue = λ k. everywhere queue_max r.classes r.queues k (both-fst _ _ e5) (both-snd _ _ e5);
      budget = budgets.budget;
    }
