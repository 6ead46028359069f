-- What an opening's line opens keeps its rules: the lists that the layout gives have 16 places each.
use Prim.Native.Nat.{ℕ, ◌≤◌, min}
use mathlib.Core.Bool.{true}
use mathlib.Core.Path.{◌≡◌}
use mathlib.Core.List.{List}
use native.Mathlib.Omega.{arith}
use lib.ListN.{length, length-append, length-replicate}
use Rattle.units.specs.Limits.{segments_max}
use Rattle.units.specs.Arrays.{padded}
use Rattle.seg.specs.Record.{record_ok as free_ok}
use Rattle.seg.proofs.Kept.{opened-keeps as free-keeps}
use Rattle.pseg.specs.Record.{record_ok as priority_ok}
use Rattle.pseg.proofs.Kept.{opened-keeps as priority-keeps}
use Rattle.poly_seg.specs.Record.{record_ok as polynomial_ok}
use Rattle.poly_seg.proofs.Kept.{opened-keeps as polynomial-keeps}
use Rattle.legacy.specs.Record.{record_ok as queue_ok}
use Rattle.legacy.proofs.Kept.{opened-ok}
use Rattle.layout.specs.Segments.{rate_at, delay_at, no_rate, no_delay, rates_at, delays_at}
use Rattle.layout.specs.Opening.{opening_of}
use Rattle.layout.specs.Polynomial.{polynomial_of}
use Rattle.layout.specs.Queue.{queue_of}
use Rattle.layout.proofs.Rows.{length-rows}
use Rattle.frames.specs.Opening.{free_opened, priority_opened, polynomial_opened, queue_opened}

length-padded : {A : Type 0} (m : ℕ) (z : A) (l : List A) → length l ≤ m → length (padded m z l) ≡ m
unfolding padded
length-padded m z l h = simp (length-append, length-replicate) (omega (arith, h))

module _ (line : List ℕ) (at n : ℕ) where
  rates-size : length (rates_at line at n) ≡ segments_max
  unfolding rates_at
  rates-size = length-padded segments_max no_rate _ (rw (length-rows (rate_at line) 24 at (min segments_max n)) (omega arith))

  delays-size : length (delays_at line at n) ≡ segments_max
  unfolding delays_at
  delays-size = length-padded segments_max no_delay _ (rw (length-rows (delay_at line) 24 at (min segments_max n)) (omega arith))

module _ (line : List ℕ) where
  pub free-opened : (free_opened (opening_of line)).number ≡ 0 → free_ok (free_opened (opening_of line)).manager ≡ true
  unfolding free_opened opening_of
  free-opened z = free-keeps _ _ _ _ _ _ (rates-size line _ _) (delays-size line _ _) z

  pub priority-opened : (priority_opened (opening_of line)).number ≡ 0 → priority_ok (priority_opened (opening_of line)).manager ≡ true
  unfolding priority_opened opening_of
  priority-opened z = priority-keeps _ _ _ _ _ _ z (rates-size line _ _) (delays-size line _ _)

  pub polynomial-opened : (polynomial_opened (polynomial_of line)).number ≡ 0 → polynomial_ok (polynomial_opened (polynomial_of line)).manager ≡ true
  unfolding polynomial_opened polynomial_of
  polynomial-opened z = polynomial-keeps _ _ _ _ _ (delays-size line _ _) z

  pub queue-opened : (queue_opened (queue_of line)).number ≡ 0 → queue_ok (queue_opened (queue_of line)).manager ≡ true
  unfolding queue_opened queue_of
  queue-opened z = opened-ok _ _ _ _ _ _ _ z
