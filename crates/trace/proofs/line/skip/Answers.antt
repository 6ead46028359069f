-- `trace::line::skip` passes blocks that have no line end.
use Rattle.std.proofs.Common.{◌≡◌, ◌==◌, ℕ, ◌-◌, ◌<◌, ◌≤◌, List, false, length, take, drop, get_or, arith, eq-eqb, sym, ◌∙◌, inl, inr}
use Rattle.std.specs.List.{list_any}
use Rattle.std.proofs.lemmas.Bool.{both_ways, cases_lt}
use Rattle.std.proofs.lemmas.List.Folds.{list_any_at}
use Rattle.std.proofs.lemmas.Grind.{common_steps}
use Rattle.trace.proofs.line.skip.Goals as goal

none-within : (xs : List ℕ) (i j : ℕ) → j ≤ length xs → list_any (λ x. x == 10) (take (j - i) (drop i xs)) ≡ false
    → (k : ℕ) → i ≤ k → k < j → get_or xs k 0 ≡ 10 → ⊥
none-within xs i j inside none k low high is =
    let at : get_or (take (j - i) (drop i xs)) (k - i) 0 ≡ 10 = grind (arith, common_steps) in
    both_ways _ none
    (list_any_at (λ (x : ℕ). x == 10) (take (j - i) (drop i xs)) (k - i) 0 (grind (arith, common_steps)) (eq-eqb _ _ at))

pub loop-i-preserved : goal.loop-i-preserved
loop-i-preserved c = record {
  inside = omega arith;
  before = λ k high. elim (cases_lt k c.loop-i.i) [
    | inl low ↦ c.loop-i.invariant.before k low
    | inr low ↦ none-within _ _ _ (omega arith) (sym c.has_end.ensures ∙ c.if-has_end.false) k low high
  ];
}
