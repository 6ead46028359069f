-- A search over a polynomial's terms, and over a size as the mode counts it, is the search over its capacity; and what the search asks of both holds.
use Prim.Native.Nat.{ℕ, ◌≤◌}
use mathlib.Core.Path.{◌≡◌}
use mathlib.Core.List.{List}
use native.Mathlib.Omega.{arith}
use Rattle.units.specs.Limits.{volume_max}
use Rattle.units.specs.declared.Interval.{Interval}
use Rattle.segmentation.specs.declared.VolumeSegment.{VolumeSegment}
use Rattle.poly.specs.declared.Polynome.{Polynome}
use Rattle.poly.specs.declared.terms.Terms.{Terms}
use Rattle.poly.specs.Poly.{step_max, capacity_to}
use Rattle.poly.specs.Search.{wanted_of}
use Rattle.poly.specs.Granted.{terms_of, capacity_by, Ranged}
use Rattle.poly.proofs.Modes.{capacity-terms, wanted-most}
use Rattle.poly_seg.specs.DryRun.{offer_of}

module _ (mode : ℕ) (p : Polynome) (terms : Terms) (same : terms ≡ terms_of mode p) where
  pub terms-ranged : (w : Interval) → Ranged (terms_of mode p) w → Ranged terms w
  terms-ranged w h = rw same h

  module _ (v size : ℕ) (counted : size ≡ wanted_of mode v) where
    pub size_small : v ≤ volume_max → size ≤ step_max
    size_small most = omega (arith, counted, wanted-most mode v)

    pub counted-offer : (f : List VolumeSegment) (t : ℕ) → offer_of (capacity_by terms) f t size ≡ offer_of (capacity_to mode p) f t (wanted_of mode v)
    counted-offer f t = rw (same, counted, capacity-terms mode p)
