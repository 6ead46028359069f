-- `trace::line::line_end` answers the first line end.
use Rattle.std.proofs.Common.{◌≡◌, ◌==◌, ℕ, ◌<◌, arith, length}
use Rattle.std.specs.List.{position_or_len}
use Rattle.std.proofs.lemmas.Bool.{ne_eqb}
use Rattle.std.proofs.lemmas.List.Sums.{position_or_len_is}
use Rattle.std.proofs.lemmas.Grind.{common_steps}
use Rattle.trace.proofs.line.line_end.Goals as goal

pub returns-then-bytes-i-eq10-clause-first : goal.returns-then-bytes-i-eq10-clause-first
returns-then-bytes-i-eq10-clause-first c =
    let h : position_or_len (λ x. x == 10) c.args.bytes.now ≡ c.loop-i.i =
    position_or_len_is {X = ℕ} (λ x. x == 10) c.args.bytes.now c.loop-i.i 0 (omega arith)
    (λ k low. ne_eqb _ _ (c.loop-i.invariant k low))
    (λ _. grind (arith, common_steps)) in
    grind (arith, common_steps, h)

pub returns-clause-first : goal.returns-clause-first
returns-clause-first c =
    let h : position_or_len (λ x. x == 10) c.args.bytes.now ≡ length c.args.bytes.now =
    position_or_len_is {X = ℕ} (λ x. x == 10) c.args.bytes.now (length c.args.bytes.now) 0 (omega arith)
    (λ k low. let below : k < c.loop-i.i = omega arith in ne_eqb _ _ (c.loop-i.invariant k below))
    (λ (past : length c.args.bytes.now < length c.args.bytes.now). absurd (omega arith)) in
    grind (arith, common_steps, h)
