-- What the test of the delay segments tells.
use Prim.Native.Nat.{ℕ, ◌≤◌}
use mathlib.Core.Bool.{true}
use mathlib.Core.Path.{◌≡◌}
use mathlib.Core.List.{List}
use lib.ListN.{take}
use Rattle.units.specs.Limits.{segments_max}
use Rattle.units.specs.declared.Interval.{Interval}
use Rattle.units.specs.Logic.{all_of}
use Rattle.units.proofs.Logic.{both-fst, both-snd}
use Rattle.segmentation.specs.declared.DelaySegment.{DelaySegment}
use Rattle.contact.specs.Segments.{delay_span, spans, delay_ok, delays_ok}
use Rattle.contact.proofs.Spans.{covers-some, covers-most, covers-spans}

module _ (w : Interval) (n : ℕ) (l : List DelaySegment) (e : delays_ok w n l ≡ true) where
  pub delays-some : 1 ≤ n
  unfolding delays_ok
  delays-some = covers-some delay_span w n l (both-fst _ _ e)

  pub delays-most : n ≤ segments_max
  unfolding delays_ok
  delays-most = covers-most delay_span w n l (both-fst _ _ e)

  pub delays-span : spans delay_span w.start.0 w.end.0 (take n l) ≡ true
  unfolding delays_ok
  delays-span = covers-spans delay_span w n l (both-fst _ _ e)

  pub delays-brief : all_of delay_ok (take n l) ≡ true
  unfolding delays_ok
  delays-brief = both-snd _ _ e
