-- `frames::change` meets its contract: each kind's arm answers what the table says of that kind.
use Prim.Native.Nat.{ℕ}
use native.Mathlib.Omega.{arith}
use mathlib.Core.Path.{◌≡◌, ◌∙◌}
use mathlib.Core.Logic.{⊎_elim}
use Rattle.hexadecimal.specs.Digits.{byte_at}
use Rattle.held.specs.declared.Done.{Done}
use Rattle.frames.specs.Step.{on, change_of}
use Rattle.frames.proofs.Table.{change-as, change-none}
use Rattle.frames.proofs.change.Goals as goal
use Rattle.frames.proofs.change.Goals.{After-byte_at-kind}

-- what the table says of the kind's number it says of the line
known : (c : After-byte_at-kind) {n : ℕ} {r : Done} → c.byte_at-kind.result ≡ n
    → r ≡ change_of n c.args.line.now c.args.held
    → r ≡ change_of (byte_at c.args.line.now 0) c.args.line.now c.args.held
known c e q = change-as _ _ c.byte_at-kind.ensures e q

pub returns-in-1 : goal.returns-in-1
unfolding change_of on
returns-in-1 c =
    let at = (goal.at.returns-in-1 c).After-byte_at-kind in
    ⊎_elim (λ e. known at e c.open.ensures) (λ e. known at e c.open.ensures) c.in-1.is

pub returns-in-2 : goal.returns-in-2
unfolding change_of on
returns-in-2 c =
    let at = (goal.at.returns-in-2 c).After-byte_at-kind in
    ⊎_elim (λ e. known at e c.open-in-2.ensures) (λ e. known at e c.open-in-2.ensures) c.in-2.is

pub returns-in-3 : goal.returns-in-3
unfolding change_of on
returns-in-3 c =
    let at = (goal.at.returns-in-3 c).After-byte_at-kind in
    ⊎_elim (λ e. known at e c.open-in-3.ensures) (λ e. known at e c.open-in-3.ensures) c.in-3.is

pub returns-in-4 : goal.returns-in-4
unfolding change_of on
returns-in-4 c = known (goal.at.returns-in-4 c).After-byte_at-kind c.in-4.is c.open-in-4.ensures

pub returns-in-17 : goal.returns-in-17
unfolding change_of on
returns-in-17 c = known (goal.at.returns-in-17 c).After-byte_at-kind c.in-17.is c.book.ensures

pub returns-in-19 : goal.returns-in-19
unfolding change_of on
returns-in-19 c = known (goal.at.returns-in-19 c).After-byte_at-kind c.in-19.is c.enqueue.ensures

pub returns-in-20 : goal.returns-in-20
unfolding change_of on
returns-in-20 c = known (goal.at.returns-in-20 c).After-byte_at-kind c.in-20.is c.dequeue.ensures

pub returns-in_default : goal.returns-in_default
returns-in_default c =
    c.refused.ensures
    ∙ change-none _ _ c.byte_at-kind.ensures (λ e. grind arith) (λ e. grind arith) (λ e. grind arith) (λ e. grind arith) (λ e. grind arith) (λ e. grind arith) (λ e. grind arith) (λ e. grind arith) (λ e. grind arith) (λ e. grind arith)
