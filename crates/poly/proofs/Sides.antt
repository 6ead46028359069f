-- The rate, its integral and Horner's rule as sides of an equation: the coefficients are the first four letters.
use Rattle.poly.proofs.Letters.{Side, num, var, ◌⊕◌, ◌⊗◌}

-- integral12
abbrev pub integral-side : Side → Side
integral-side d =
    num 3 ⊗ var 3 ⊗ d ⊗ d ⊗ d ⊗ d ⊕ num 4 ⊗ var 2 ⊗ d ⊗ d ⊗ d ⊕ num 6 ⊗ var 1 ⊗ d ⊗ d ⊕ num 12 ⊗ var 0 ⊗ d

-- rate_at
abbrev pub rate-side : Side → Side
rate-side d = var 3 ⊗ d ⊗ d ⊗ d ⊕ var 2 ⊗ d ⊗ d ⊕ var 1 ⊗ d ⊕ var 0

-- mean12
abbrev pub mean-side : Side → Side → Side
mean-side x y =
    num 3 ⊗ var 3 ⊗ (x ⊗ x ⊗ x ⊕ x ⊗ x ⊗ y ⊕ x ⊗ y ⊗ y ⊕ y ⊗ y ⊗ y) ⊕ num 4 ⊗ var 2 ⊗ (x ⊗ x ⊕ x ⊗ y ⊕ y ⊗ y) ⊕ num 6 ⊗ var 1 ⊗ (x ⊕ y) ⊕ num 12 ⊗ var 0

-- rate8
abbrev pub half-side : Side → Side
half-side h = var 3 ⊗ h ⊗ h ⊗ h ⊕ num 2 ⊗ var 2 ⊗ h ⊗ h ⊕ num 4 ⊗ var 1 ⊗ h ⊕ num 8 ⊗ var 0

-- horner_of
abbrev pub horner-side : Side → Side → Side → Side → Side → Side
horner-side t0 t1 t2 t3 d = (((num 0 ⊗ d ⊕ t3) ⊗ d ⊕ t2) ⊗ d ⊕ t1) ⊗ d ⊕ t0
