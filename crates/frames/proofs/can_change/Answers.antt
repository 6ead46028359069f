-- `frames::can_change` meets its contract: the code's stretches 1 to 4, 17, 19 to 20, and 33 to 35 are the table's kinds.
use native.Mathlib.Omega.{arith}
use Rattle.frames.proofs.Table.{changes-no, changes-early, changes-booking, changes-late, changes-ruled}
use Rattle.frames.proofs.can_change.Goals as goal

-- below 1
pub returns-in_default : goal.returns-in_default
returns-in_default c = changes-no c.byte_at-kind.ensures (λ h. omega arith) (λ e. omega arith) (λ h. omega arith) (λ h. omega arith)

-- 5 to 18, and not 17
pub returns-in_default-2 : goal.returns-in_default-2
returns-in_default-2 c = changes-no c.byte_at-kind.ensures (λ h. omega arith) (λ e. omega arith) (λ h. omega arith) (λ h. omega arith)

-- 21 to 32
pub returns-in_default-3 : goal.returns-in_default-3
returns-in_default-3 c = changes-no c.byte_at-kind.ensures (λ h. omega arith) (λ e. omega arith) (λ h. omega arith) (λ h. omega arith)

-- from 36 on
pub returns-in_default-4 : goal.returns-in_default-4
returns-in_default-4 c = changes-no c.byte_at-kind.ensures (λ h. omega arith) (λ e. omega arith) (λ h. omega arith) (λ h. omega arith)

pub returns-in-1 : goal.returns-in-1
returns-in-1 c = changes-booking c.byte_at-kind.ensures (omega arith)

pub returns-in-1-2 : goal.returns-in-1-2
returns-in-1-2 c = changes-early c.byte_at-kind.ensures (omega arith) (omega arith)

pub returns-in-1-3 : goal.returns-in-1-3
returns-in-1-3 c = changes-late c.byte_at-kind.ensures (omega arith) (omega arith)

pub returns-in-1-4 : goal.returns-in-1-4
returns-in-1-4 c = changes-ruled c.byte_at-kind.ensures (omega arith) (omega arith)
