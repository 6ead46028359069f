-- 01, "Managers", Polynomial: the end search, whose steps decide where the capacity falls; over any capacity to a date, so 02's R-6 keeps it.
use Rattle.std.specs.Prelude.{ℕ, zero, suc, ◌+◌, ◌-◌, ◌*◌, ◌/◌, leb, ltb, ℤ, pos, ◌-ℤ◌, Option, Some, None}
use Rattle.std.specs.Int.Signed.{lt_z}
use Rattle.units.specs.Logic.{both, pick, unless}
use Rattle.units.specs.declared.Date.{Date}
use Rattle.poly.specs.Poly.{exact}

-- 02, R-6: the size v as the mode counts it: in mode 2 twelve times the size
unfoldable pub wanted_of : ℕ → ℕ → ℕ
wanted_of mode v = pick (exact mode) (12 * v) v

-- the capacity to y, less a known one
unfoldable pub area_from : (ℕ → ℤ) → ℤ → ℕ → ℤ
area_from cap known y = cap y -ℤ known

-- low + (high - low) / 2, where high is top - 1
abbrev pub middle : ℕ → ℕ → ℕ
middle low top = low + (top - low - 1) / 2

-- halve between low and high = top - 1, both included, at most n times: stop on equality, else return low
unfoldable pub halve_of : ℕ → (ℕ → ℤ) → ℤ → ℕ → ℕ → ℕ
halve_of zero f t low top = low
halve_of (suc n) f t low top =
    unless (ltb low top) low
    (pick (lt_z (f (middle low top)) t) (halve_of n f t (middle low top + 1) top)
    (pick (lt_z t (f (middle low top))) (halve_of n f t low (middle low top))
    (middle low top)))

-- the end from x on in the free segment [a, b): none unless a <= x < b and the capacity from x to b suffices
unfoldable pub find_end : (ℕ → ℤ) → ℕ → ℕ → ℕ → ℕ → Option Date
find_end cap a b x v =
    unless (both (leb a x) (ltb x b)) None
    (pick (lt_z (area_from cap (cap x) b) (pos v)) None
    (Some (record { 0 = halve_of (b + 1 - x) (area_from cap (cap x)) (pos v) x (b + 1) })))
