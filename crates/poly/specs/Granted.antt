-- What inner functions compute on the way and take for granted: a record's test shows it before they are called. No promise of a public call rests on it.
use Rattle.std.specs.Prelude.{ℕ, ◌-◌, ◌*◌, ◌≤◌, max, leb, [], ◌∷◌, ℤ, pos, ◌-ℤ◌, ◌*ℤ◌, Option, Some, None}
use Rattle.units.specs.Limits.{date_max}
use Rattle.units.specs.Logic.{pick}
use Rattle.units.specs.declared.Interval.{Interval}
use Rattle.poly.specs.declared.Polynome.{Polynome}
use Rattle.poly.specs.declared.terms.Terms.{Terms}
use Rattle.poly.specs.Poly.{step_max, coefficient, term, mag_of, horner_of}

-- the polynomial as its mode counts it
abbrev pub terms_of : ℕ → Polynome → Terms
terms_of mode p = record { each = term mode p 0 ∷ term mode p 1 ∷ term mode p 2 ∷ term mode p 3 ∷ []; offset = p.offset }

-- the capacity to the date x by Horner's rule over the terms
unfoldable pub capacity_by : Terms → ℕ → ℤ
capacity_by t x =
    let d = pos x -ℤ pos t.offset.0 in
    horner_of (coefficient t.each 0) (coefficient t.each 1) (coefficient t.each 2) (coefficient t.each 3) d *ℤ d

-- the range rule at a distance, step by step
pub record InRange (t0 t1 t2 t3 : ℤ) (m : ℕ) : Type 0 where
  pub r3 : mag_of 0 m t3 ≤ step_max
  pub r2 : mag_of (mag_of 0 m t3) m t2 ≤ step_max
  pub r1 : mag_of (mag_of (mag_of 0 m t3) m t2) m t1 ≤ step_max
  pub r0 : mag_of (mag_of (mag_of (mag_of 0 m t3) m t2) m t1) m t0 ≤ step_max
  pub last : mag_of (mag_of (mag_of (mag_of 0 m t3) m t2) m t1) m t0 * m ≤ step_max

-- of terms
abbrev pub InRangeOf : Terms → ℕ → Type 0
InRangeOf t m = InRange (coefficient t.each 0) (coefficient t.each 1) (coefficient t.each 2) (coefficient t.each 3) m

-- how far from the offset a date of the window is at most
abbrev pub farthest : Terms → Interval → ℕ
farthest t w = max (w.end.0 - t.offset.0) (t.offset.0 - w.start.0)

-- no date of the window is farther from the offset than the range rule allows
pub record Ranged (t : Terms) (w : Interval) : Type 0 where
  pub date : w.end.0 ≤ date_max
  pub offset : t.offset.0 ≤ date_max
  pub range : InRangeOf t (farthest t w)

-- a magnitude, where it does not pass the limit of a step
abbrev pub in_limit : ℕ → Option ℕ
in_limit n = pick (leb n step_max) (Some n) None
