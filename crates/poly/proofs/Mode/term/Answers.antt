-- `poly::Mode::term` meets its contract: each mode's term, of numbers that are read back as they are.
use mathlib.Core.Path.{◌≡◌, sym}
use Prim.Native.Nat.{ℕ, ◌/◌, ◌<◌, ◌≤◌}
use native.Mathlib.Nat.{div-le_self}
use native.Mathlib.Omega.{arith}
use lib.IntN.{ℤ, nat_abs, ◌*ℤ◌}
use lib.Signed.{quot_z}
use mir.Syntax.{w64}
use mir.Val.{SFits, to_z}
use mir.Facts.{to_z-of_z}
use Rattle.std.proofs.lemmas.Int.{to_z_pos}
use Rattle.poly.specs.Poly.{step_max, term_of}
use Rattle.poly.proofs.Abs.{sfits}
use Rattle.poly.proofs.Back.{rd}
use Rattle.poly.proofs.Modes.{term-exact, term-ported}
use Rattle.poly.proofs.Mode.term.Goals as goal

module _ (mode k : ℕ) (x : ℤ) (fits : SFits w64 x) (asks : (0 < k) × (k < 5) × (nat_abs (term_of mode x k) ≤ step_max)) where
  value-fits : SFits w64 (term_of mode x k)
  value-fits = sfits _ (omega (arith, asks.2))

  -- twelve times the quotient
  module _ (e : mode ≡ 2) where
    product : to_z w64 (12 / k) *ℤ rd x ≡ term_of mode x k
    product = rw (to_z_pos w64 (12 / k) (omega (arith, div-le_self 12 k)), to_z-of_z fits) (sym (term-exact x k e))

    multiplies : SFits w64 (to_z w64 (12 / k) *ℤ rd x)
    multiplies = rw product value-fits

    multiplied : rd (to_z w64 (12 / k) *ℤ rd x) ≡ term_of mode x k
    multiplied = rw product (to_z-of_z value-fits)

  -- the quotient towards zero
  module _ (e : mode ≡ 2 → ⊥) where
    quotient : quot_z (rd x) (to_z w64 k) ≡ term_of mode x k
    quotient = rw (to_z_pos w64 k (omega arith), to_z-of_z fits) (sym (term-ported x k e))

    divided : rd (quot_z (rd x) (to_z w64 k)) ≡ term_of mode x k
    divided = rw quotient (to_z-of_z value-fits)

pub overflow_mul-result : goal.overflow_mul-result
overflow_mul-result c = multiplies _ _ _ c.ranges.c c.requires c.if-self-eq-EXACT.true

pub returns-then-self-eq-EXACT : goal.returns-then-self-eq-EXACT
returns-then-self-eq-EXACT c = multiplied _ _ _ c.ranges.c c.requires c.if-self-eq-EXACT.true

pub returns-else-self-eq-EXACT : goal.returns-else-self-eq-EXACT
returns-else-self-eq-EXACT c = divided _ _ _ c.ranges.c c.requires c.if-self-eq-EXACT.false
