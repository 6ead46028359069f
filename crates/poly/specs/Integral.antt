-- 02, R-6: a rate c0 + c1 t + c2 t^2 + c3 t^3 and its integral, in twelfths, so that it is whole. That it is the integral is proved from the rate and the mean rate (proofs/Slope).
use Rattle.std.specs.Prelude.{ℤ, pos, ◌+ℤ◌, ◌*ℤ◌}

-- twelve times the integral from 0 to d, which is c3 d^4 / 4 + c2 d^3 / 3 + c1 d^2 / 2 + c0 d
unfoldable pub integral12 : ℤ → ℤ → ℤ → ℤ → ℤ → ℤ
integral12 c0 c1 c2 c3 d =
    pos 3 *ℤ c3 *ℤ d *ℤ d *ℤ d *ℤ d +ℤ pos 4 *ℤ c2 *ℤ d *ℤ d *ℤ d +ℤ pos 6 *ℤ c1 *ℤ d *ℤ d +ℤ pos 12 *ℤ c0 *ℤ d

-- the rate at d
unfoldable pub rate_at : ℤ → ℤ → ℤ → ℤ → ℤ → ℤ
rate_at c0 c1 c2 c3 d = c3 *ℤ d *ℤ d *ℤ d +ℤ c2 *ℤ d *ℤ d +ℤ c1 *ℤ d +ℤ c0

-- a whole polynomial in x and y: twelve times the mean rate from x to y
unfoldable pub mean12 : ℤ → ℤ → ℤ → ℤ → ℤ → ℤ → ℤ
mean12 c0 c1 c2 c3 x y =
    pos 3 *ℤ c3 *ℤ (x *ℤ x *ℤ x +ℤ x *ℤ x *ℤ y +ℤ x *ℤ y *ℤ y +ℤ y *ℤ y *ℤ y) +ℤ pos 4 *ℤ c2 *ℤ (x *ℤ x +ℤ x *ℤ y +ℤ y *ℤ y) +ℤ pos 6 *ℤ c1 *ℤ (x +ℤ y) +ℤ pos 12 *ℤ c0

-- eight times the rate at h half ticks
unfoldable pub rate8 : ℤ → ℤ → ℤ → ℤ → ℤ → ℤ
rate8 c0 c1 c2 c3 h = c3 *ℤ h *ℤ h *ℤ h +ℤ pos 2 *ℤ c2 *ℤ h *ℤ h +ℤ pos 4 *ℤ c1 *ℤ h +ℤ pos 8 *ℤ c0
