-- What a contact carries in all: its total volume is the exact capacity of its window, and no span of time carries more.
use Prim.Native.Nat.{ℕ, ◌≤◌}
use mathlib.Core.Path.{◌≡◌, refl, sym, ap, ◌∙◌}
use mathlib.Core.List.{List, [], ◌∷◌, map}
use native.Mathlib.Omega.{arith}
use Rattle.units.specs.Limits.{volume_max}
use Rattle.segmentation.specs.declared.VolumeSegment.{VolumeSegment}
use Rattle.segmentation.specs.Capacity.{capacity}
use Rattle.segmentation.specs.Granted.{SegOk, Run}
use Rattle.segmentation.proofs.Capacity.{volume_sum, total-is, capacity-most}
use Rattle.contact.specs.declared.Contact.{Contact}
use Rattle.contact.specs.Segments.{rate_segment}
use Rattle.contact.specs.Open.{total_of}
use Rattle.contact.specs.Record.{rates_of, total_in}
use Rattle.contact.proofs.Sound.{Sound}

-- rates times lengths are the volumes that are kept
run-total : (l : List VolumeSegment) (a : ℕ) → Run a l → volume_sum l ≡ total_of (map rate_segment l)
unfolding Run volume_sum total_of
run-total [] a r = refl
run-total (s ∷ l) a r =
    let ok : SegOk s = r.1 in
    omega (arith, ok.whole, run-total l s.end.0 r.2)

module _ (c : Contact) (q : Sound c) where
  sum-total : volume_sum (rates_of c) ≡ total_in c
  sum-total = run-total (rates_of c) c.window.start.0 q.run

  pub window-total : capacity (rates_of c) c.window.start.0 c.window.end.0 ≡ total_in c
  window-total =
      sym (total-is (rates_of c) c.window.start.0 q.run ∙ ap (capacity (rates_of c) c.window.start.0) q.close) ∙ sum-total

  pub span-most : (a b : ℕ) → capacity (rates_of c) a b ≤ volume_max
  span-most a b = omega (arith, capacity-most (rates_of c) c.window.start.0 a b q.run, sum-total, q.total)
