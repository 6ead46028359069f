-- `poly::Mode::magnitude` meets its contract: the magnitude of each mode's term.
use mathlib.Core.Path.{◌≡◌, ◌∙◌, ap}
use Prim.Native.Nat.{ℕ, ◌+◌, ◌*◌, ◌/◌}
use native.Mathlib.Omega.{arith}
use lib.IntN.{ℤ, pos, nat_abs}
use mir.Syntax.{w64}
use mir.Val.{SFits}
use mir.Facts.{to_z-of_z}
use Rattle.poly.specs.Poly.{term_of}
use Rattle.poly.specs.Granted.{in_limit}
use Rattle.poly.proofs.Abs.{abs-mul, abs-quot}
use Rattle.poly.proofs.Back.{rd}
use Rattle.poly.proofs.Modes.{term-exact, term-ported}
use Rattle.poly.proofs.Mode.magnitude.Goals as goal

-- a coefficient's magnitude, times or over what the mode says
module _ (mode : ℕ) (c : ℤ) (fits : SFits w64 c) (k r : ℕ) (is : r ≡ nat_abs (rd c)) where
  read : r ≡ nat_abs c
  read = is ∙ ap nat_abs (to_z-of_z fits)

  whole : mode ≡ 2 → 12 / k * r + 0 ≡ nat_abs (term_of mode c k)
  whole e = rw (read, term-exact c k e, abs-mul (pos (12 / k)) c) (omega arith)

  quotient : (mode ≡ 2 → ⊥) → 0 * 0 + r / k ≡ nat_abs (term_of mode c k)
  quotient e = rw (read, term-ported c k e, abs-quot c k) (omega arith)

pub returns-then-self-eq-EXACT : goal.returns-then-self-eq-EXACT
returns-then-self-eq-EXACT c =
    c.step.ensures ∙ ap in_limit (whole _ _ c.ranges.c _ _ c.unsigned_abs-a.ensures.value c.if-self-eq-EXACT.true)

pub returns-else-self-eq-EXACT : goal.returns-else-self-eq-EXACT
returns-else-self-eq-EXACT c =
    c.step-else-self-eq-EXACT.ensures ∙ ap in_limit (quotient _ _ c.ranges.c _ _ c.unsigned_abs-a.ensures.value c.if-self-eq-EXACT.false)
