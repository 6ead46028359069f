-- 01's case 10 on the end search in either mode, the rounding of a negative quotient, and searches where the capacity falls.
use Prim.Native.Nat.{ℕ}
use mathlib.Core.List.{[], ◌∷◌}
use mathlib.Core.Path.{◌≡◌, refl}
use lib.IntN.{ℤ, pos, negsuc}
use lib.Signed.{quot_z}
use Rattle.units.specs.Logic.{both}
use Rattle.units.specs.declared.Date.{Date}
use Rattle.std.specs.Prelude.{Option, Some, None}
use Rattle.poly.specs.declared.Polynome.{Polynome}
use Rattle.poly.specs.Integral.{integral12}
use Rattle.poly.specs.Poly.{step_of, horner_of, capacity_to}
use Rattle.poly.specs.Search.{area_from, wanted_of, halve_of, find_end}

abbrev poly : ℤ → ℤ → ℤ → ℤ → ℕ → Polynome
poly c0 c1 c2 c3 o = record { coefficients = c0 ∷ c1 ∷ c2 ∷ c3 ∷ []; offset = record { 0 = o } }

-- the end in [a, b) from x on of a send of size v, in a mode
abbrev ended : ℕ → Polynome → ℕ → ℕ → ℕ → ℕ → Option Date
ended mode p a b x v = find_end (capacity_to mode p) a b x (wanted_of mode v)

-- rate 10 in [0,10), at 3: size 15 or 20 ends at 5
rounded-up : ended 1 (poly (pos 10) (pos 0) (pos 0) (pos 0) 0) 0 10 3 15 ≡ Some (record { 0 = 5 })
unfolding find_end halve_of area_from wanted_of capacity_to horner_of step_of both
rounded-up = refl

exact : ended 1 (poly (pos 10) (pos 0) (pos 0) (pos 0) 0) 0 10 3 20 ≡ Some (record { 0 = 5 })
unfolding find_end halve_of area_from wanted_of capacity_to horner_of step_of both
exact = refl

-- 1 / 2 is 0: there is no capacity
none : ended 1 (poly (pos 0) (pos 1) (pos 0) (pos 0) 0) 0 10 3 1 ≡ None
unfolding find_end halve_of area_from wanted_of capacity_to horner_of step_of both
none = refl

-- -3 / 2 is -1, not -2
minus-three-halves : quot_z (negsuc 2) (pos 2) ≡ negsuc 0
minus-three-halves = refl

towards-zero : capacity_to 1 (poly (pos 0) (negsuc 2) (pos 0) (pos 0) 0) 1 ≡ negsuc 0
unfolding capacity_to horner_of step_of
towards-zero = refl

-- the capacity falls before the offset, and the steps decide
falling : ended 1 (poly (pos 217) (pos 55) (pos 4) (pos 0) 17) 0 19 0 279 ≡ Some (record { 0 = 9 })
unfolding find_end halve_of area_from wanted_of capacity_to horner_of step_of both
falling = refl

-- mode 2: twelve times the integral of a line with slope 1 to 10 is 12 x 50
fifty : capacity_to 2 (poly (pos 0) (pos 1) (pos 0) (pos 0) 0) 10 ≡ pos 600
unfolding capacity_to integral12
fifty = refl

-- case 10's last line, asked at 0: size 1 ends at 2, where 2 are sent
slope : ended 2 (poly (pos 0) (pos 1) (pos 0) (pos 0) 0) 0 10 0 1 ≡ Some (record { 0 = 2 })
unfolding find_end halve_of area_from wanted_of capacity_to integral12 both
slope = refl

slope-exact : ended 2 (poly (pos 0) (pos 1) (pos 0) (pos 0) 0) 0 10 0 2 ≡ Some (record { 0 = 2 })
unfolding find_end halve_of area_from wanted_of capacity_to integral12 both
slope-exact = refl

slope-all : ended 2 (poly (pos 0) (pos 1) (pos 0) (pos 0) 0) 0 10 0 50 ≡ Some (record { 0 = 10 })
unfolding find_end halve_of area_from wanted_of capacity_to integral12 both
slope-all = refl

slope-none : ended 2 (poly (pos 0) (pos 1) (pos 0) (pos 0) 0) 0 10 0 51 ≡ None
unfolding find_end halve_of area_from wanted_of capacity_to integral12 both
slope-none = refl

-- exactly the size, and not the first: the rate falls below zero between 1 and 2, and 6 are sent at both
not_first : ended 2 (poly (pos 13) (negsuc 17) (pos 6) (pos 0) 0) 0 4 0 6 ≡ Some (record { 0 = 2 })
unfolding find_end halve_of area_from wanted_of capacity_to integral12 both
not_first = refl
