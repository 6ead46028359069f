-- 01, "Managers", Polynomial, and 02, R-6: the capacity to a date and the range rule, in either mode. Over the integers.
use Rattle.std.specs.Prelude.{ℕ, ◌+◌, ◌-◌, ◌*◌, ◌/◌, ◌^◌, max, Bool, List, leb, eqb, get_or, ℤ, pos, ◌+ℤ◌, ◌-ℤ◌, ◌*ℤ◌, nat_abs}
use Rattle.std.specs.Int.Signed.{quot_z}
use Rattle.units.specs.declared.Interval.{Interval}
use Rattle.units.specs.Logic.{both, pick}
use Rattle.units.specs.Limits.{date_max}
use Rattle.poly.specs.declared.Polynome.{Polynome}
use Rattle.poly.specs.Integral.{integral12}

-- 02, R-6: mode 2 counts capacities and sizes in twelfths; mode 1 is 01's
abbrev pub exact : ℕ → Bool
exact mode = eqb mode 2

-- value x d + t
unfoldable pub step_of : ℤ → ℤ → ℤ → ℤ
step_of v d t = v *ℤ d +ℤ t

-- from the highest term down
unfoldable pub horner_of : ℤ → ℤ → ℤ → ℤ → ℤ → ℤ
horner_of t0 t1 t2 t3 d = step_of (step_of (step_of (step_of (pos 0) d t3) d t2) d t1) d t0

-- coefficient i
abbrev pub coefficient : List ℤ → ℕ → ℤ
coefficient cs i = get_or cs i (pos 0)

-- mode 1: coefficient i over i + 1, the quotient towards zero; multiplied by d at last
abbrev pub ported_to : List ℤ → ℤ → ℤ
ported_to cs d =
    horner_of (quot_z (coefficient cs 0) (pos 1)) (quot_z (coefficient cs 1) (pos 2)) (quot_z (coefficient cs 2) (pos 3)) (quot_z (coefficient cs 3) (pos 4)) d *ℤ d

-- mode 2: twelve times the integral
abbrev pub exact_to : List ℤ → ℤ → ℤ
exact_to cs d = integral12 (coefficient cs 0) (coefficient cs 1) (coefficient cs 2) (coefficient cs 3) d

-- the capacity to the date x, with d = x - offset
unfoldable pub capacity_to : ℕ → Polynome → ℕ → ℤ
capacity_to mode p x =
    let d = pos x -ℤ pos p.offset.0 in
    let cs = p.coefficients in
    pick (exact mode) (exact_to cs d) (ported_to cs d)

-- what no step passes
abbrev pub step_max : ℕ
step_max = 2 ^ 61

-- coefficient k - 1 over k, towards zero; in mode 2 twelve times the exact quotient, which is whole
unfoldable pub term_of : ℕ → ℤ → ℕ → ℤ
term_of mode c k = pick (exact mode) (pos (12 / k) *ℤ c) (quot_z c (pos k))

-- the step of the range rule: the distance for d, the term by its absolute value
unfoldable pub mag_of : ℕ → ℕ → ℤ → ℕ
mag_of v m t = v * m + nat_abs t

-- no step passes 2^61, the last multiplication included
unfoldable pub range_ok : ℤ → ℤ → ℤ → ℤ → ℕ → Bool
range_ok t0 t1 t2 t3 m =
    let v3 = mag_of 0 m t3 in
    let v2 = mag_of v3 m t2 in
    let v1 = mag_of v2 m t1 in
    let v0 = mag_of v1 m t0 in
    both (leb v3 step_max) (both (leb v2 step_max) (both (leb v1 step_max) (both (leb v0 step_max) (leb (v0 * m) step_max))))

-- the term of coefficient i
abbrev pub term : ℕ → Polynome → ℕ → ℤ
term mode p i = term_of mode (coefficient p.coefficients i) (i + 1)

-- the distance between two dates
abbrev pub distance : ℕ → ℕ → ℕ
distance a b = (a - b) + (b - a)

-- the largest distance of a window end from the offset
abbrev pub far_of : Polynome → Interval → ℕ
far_of p w = max (distance w.start.0 p.offset.0) (distance w.end.0 p.offset.0)

-- the limit of a coefficient's absolute value
abbrev pub coefficient_max : ℕ
coefficient_max = 2 ^ 61

abbrev pub coefficient_ok : ℤ → Bool
coefficient_ok c = leb (nat_abs c) coefficient_max

-- each coefficient -2^61 to 2^61
unfoldable pub coefficients_ok : List ℤ → Bool
coefficients_ok cs =
    both (coefficient_ok (coefficient cs 0))
    (both (coefficient_ok (coefficient cs 1))
    (both (coefficient_ok (coefficient cs 2))
    (coefficient_ok (coefficient cs 3))))

-- refusal 11: the offset and the coefficients inside their limits, and the polynomial inside its mode's range rule
unfoldable pub poly_ok : ℕ → Polynome → Interval → Bool
poly_ok mode p w =
    both (leb p.offset.0 date_max)
    (both (coefficients_ok p.coefficients)
    (range_ok (term mode p 0) (term mode p 1) (term mode p 2) (term mode p 3) (far_of p w)))
