-- The limit of a step of the range rule: what a number's being in it tells, and a number that is not.
use Prim.Native.Nat.{ℕ, ◌≤◌, ◌<◌}
use mathlib.Core.Bool.{Bool, true, false}
use mathlib.Core.Path.{◌≡◌, refl}
use borrow.Author.Tests.{leb-true, leb-false}
use lib.Dec.{leb}
use lib.IntN.{ℤ, nat_abs}
use mir.Syntax.{w64}
use mir.Val.{SFits}
use mir.Facts.{to_z-of_z}
use Rattle.std.specs.Prelude.{Option, Some, None, is_some}
use Rattle.units.specs.Logic.{pick}
use Rattle.poly.specs.Poly.{step_max, term_of}
use Rattle.poly.specs.Granted.{in_limit}
use Rattle.poly.proofs.Back.{rd}

kept : (b : Bool) (n x : ℕ) → Some x ≡ pick b (Some n) None → (b ≡ true) × (x ≡ n)
kept true n x e = (refl, cc)
kept false n x e = absurd (cc)

left-out : (b : Bool) (n : ℕ) → ◌≡◌ {A = Option ℕ} None (pick b (Some n) None) → b ≡ false
left-out true n e = absurd (cc)
left-out false n e = refl

pub limit-some : (n x : ℕ) → Some x ≡ in_limit n → (x ≡ n) × (n ≤ step_max)
limit-some n x e = let k = kept (leb n step_max) n x e in (k.1, leb-true _ _ k.0)

pub limit-none : (n : ℕ) → ◌≡◌ {A = Option ℕ} None (in_limit n) → step_max < n
limit-none n e = leb-false _ _ (left-out (leb n step_max) n e)

is_kept : (b : Bool) (n : ℕ) → is_some (pick b (Some n) None) ≡ b
is_kept true n = refl
is_kept false n = refl

pub limit-test : (n : ℕ) → is_some (in_limit n) ≡ leb n step_max
limit-test n = is_kept (leb n step_max) n

-- the magnitude of a term whose coefficient is read back as it is
pub read-term : (mode : ℕ) (z : ℤ) → SFits w64 z → (k : ℕ) {o : Option ℕ} → o ≡ in_limit (nat_abs (term_of mode (rd z) k)) → o ≡ in_limit (nat_abs (term_of mode z k))
read-term mode z f k e = rw (to_z-of_z f) at e
