-- 02, R-6: the words of its theorems. No public call's promise rests on them.
use Rattle.std.specs.Prelude.{ℕ, ◌-◌, ◌*◌, ◌<◌, ◌≤◌, true, false, ◌≡◌, ◌⊎◌, ℤ, pos, ◌-ℤ◌}
use Rattle.std.specs.Int.Signed.{lt_z}
use Rattle.poly.specs.declared.Polynome.{Polynome}
use Rattle.poly.specs.Integral.{rate8}
use Rattle.poly.specs.Poly.{coefficient, exact_to}

-- twelve times the integral of the rate from the date a to the date b
unfoldable pub capacity12 : Polynome → ℕ → ℕ → ℤ
capacity12 p a b =
    let to : ℕ → ℤ = λ x. exact_to p.coefficients (pos x -ℤ pos p.offset.0) in
    to b -ℤ to a

-- the capacity from a to b is exactly the size v, or it is more and one tick earlier it is less
abbrev pub Carries : Polynome → ℕ → ℕ → ℕ → Type 0
Carries p a b v =
    (capacity12 p a b ≡ pos (12 * v))
    ⊎ ((lt_z (pos (12 * v)) (capacity12 p a b) ≡ true) × (lt_z (capacity12 p a (b - 1)) (pos (12 * v)) ≡ true))

-- no tick from a on, before b, has the size
abbrev pub First : Polynome → ℕ → ℕ → ℕ → Type 0
First p a b v = (i : ℕ) → a ≤ i → i < b → lt_z (capacity12 p a i) (pos (12 * v)) ≡ true

-- eight times the rate at a date in half ticks
unfoldable pub rate_on : Polynome → ℕ → ℤ
rate_on p h =
    let cs = p.coefficients in
    rate8 (coefficient cs 0) (coefficient cs 1) (coefficient cs 2) (coefficient cs 3) (pos h -ℤ pos (2 * p.offset.0))

-- what can be checked on a fit: from a to b the rate is not below 0 at a tick or half tick
abbrev pub NotBelow : Polynome → ℕ → ℕ → Type 0
NotBelow p a b = (h : ℕ) → 2 * a ≤ h → h ≤ 2 * b → lt_z (rate_on p h) (pos 0) ≡ false

-- and above 0 at each tick
abbrev pub Above : Polynome → ℕ → ℕ → Type 0
Above p a b = (i : ℕ) → a ≤ i → i ≤ b → lt_z (pos 0) (rate_on p (2 * i)) ≡ true
