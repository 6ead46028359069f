-- Laws of rate segments: what the opening's tests tell of each, and their total in one pass.
use Prim.Native.Nat.{ℕ, ◌+◌, ◌-◌, ◌*◌, ◌<◌, ◌≤◌}
use mathlib.Core.Bool.{true}
use mathlib.Core.Path.{◌≡◌, ap}
use mathlib.Core.List.{List, [], ◌∷◌}
use native.Mathlib.Nat.{add-zero, zero-add, add_assoc}
use native.Mathlib.Omega.{arith}
use lib.Dec.{leb}
use lib.ListN.{length, take, drop, get_or}
use Rattle.units.proofs.Loop.{at-whole}
use borrow.Author.Tests.{leb-true, le-leb, lt-leb}
use Rattle.units.specs.declared.Interval.{Interval}
use Rattle.units.specs.Limits.{length_max, volume_max, rate_max, window_ok}
use Rattle.units.specs.Logic.{both, pick, all_of}
use Rattle.units.proofs.Logic.{both-stop, both-not, both-snd, both_yes, all_go, all-stop, all_none}
use Rattle.units.proofs.Windows.{Window, window}
use Rattle.segmentation.specs.declared.RateSegment.{RateSegment}
use Rattle.segmentation.specs.declared.VolumeSegment.{VolumeSegment}
use Rattle.std.specs.Prelude.{Option, Some, None}
use Rattle.units.specs.declared.Volume.{Volume}
use Rattle.contact.specs.Segments.{rate_span, spans, covers, volume_of}
use Rattle.contact.specs.Open.{rate_ok, total_of, volume_ok}
use Rattle.contact.specs.Granted.{Spanning, Fitting, Forward, AllFitting, total_within}
use Rattle.contact.proofs.Spans.{Inside, spans-inside, spans-rest, covers-spans}

-- segments that are the window are forward
pub forward : (lo b : ℕ) (l : List RateSegment) (a : ℕ) → lo ≤ a → b ≤ lo + length_max → spans rate_span a b l ≡ true → Forward l
unfolding Forward
forward lo b [] a h k e = tt
forward lo b (s ∷ l) a h k e =
    let i : Inside a b (rate_span s) = spans-inside rate_span b s l a e in
    (record { forth = i.some; short = omega arith }, forward lo b l s.end.0 (omega arith) k (spans-rest rate_span b s l a e))

-- and with their total inside the limit, each volume fits
pub fitting : (l : List RateSegment) → Forward l → total_of l ≤ volume_max → AllFitting l
unfolding Forward AllFitting total_of
fitting [] f h = tt
fitting (s ∷ l) f h = (record { spanning = f.0; small = omega arith }, fitting l f.1 (omega arith))

-- what the opening's tests tell of each segment
module _ (w : Interval) (n : ℕ) (l : List RateSegment) (h : window_ok w ≡ true) (e : covers rate_span w n l ≡ true) where
  pub rates-forward : Forward (take n l)
  rates-forward =
      let k : Window w = window w h in forward w.start.0 w.end.0 (take n l) w.start.0 (omega arith) k.short (covers-spans rate_span w n l e)

  pub rates-fitting : volume_ok (take n l) ≡ true → AllFitting (take n l)
  unfolding volume_ok
  rates-fitting v = fitting (take n l) rates-forward (leb-true _ _ (both-snd _ _ v))

-- what is known of each that is left is known of the first of them, and of the others
module _ (l : List RateSegment) (i : ℕ) (z : RateSegment) (lt : i < length l) where
  pub forward-here : Forward (drop i l) → (Spanning (get_or l i z)) × (Forward (drop (i + 1) l))
  unfolding Forward
  forward-here f = rw (at-whole l i z lt) at f

  pub fitting-here : AllFitting (drop i l) → (Fitting (get_or l i z)) × (AllFitting (drop (i + 1) l))
  unfolding AllFitting
  fitting-here f = rw (at-whole l i z lt) at f

-- what an index past the end reads
abbrev pub zero_rate : RateSegment
zero_rate = record { start = record { 0 = 0 }; end = record { 0 = 0 }; rate = record { 0 = 0 } }

-- what `volume_of` gives
pub holds : (s : RateSegment) (r : VolumeSegment) → r ≡ volume_of s → r.volume.0 ≡ s.rate.0 * (s.end.0 - s.start.0)
holds s r is = ap (λ (g : VolumeSegment). g.volume.0) is

-- the total in one pass, from the sum reached on
abbrev pub total_from : ℕ → List RateSegment → Option Volume
total_from v l = pick (both (all_of rate_ok l) (leb (v + total_of l) volume_max)) (Some (record { 0 = v + total_of l })) None

pub total_first : (l : List RateSegment) → total_within l ≡ total_from 0 l
unfolding volume_ok
total_first l = rw (zero-add (total_of l))

pub total-end : (v : ℕ) → v ≤ volume_max → total_from v [] ≡ Some (record { 0 = v })
unfolding total_of
total-end v h = rw (add-zero v, both_yes (all_of rate_ok []) (leb v volume_max) (all_none rate_ok) (le-leb _ _ h))

module _ (v : ℕ) (s : RateSegment) (l : List RateSegment) where
  pub total-fast : rate_max < s.rate.0 → total_from v (s ∷ l) ≡ None
  total-fast h = rw (both-stop (all_of rate_ok (s ∷ l)) (leb (v + total_of (s ∷ l)) volume_max) (all-stop rate_ok s l (lt-leb _ _ h)))

  pub total-over : volume_max - v < s.rate.0 * (s.end.0 - s.start.0) → total_from v (s ∷ l) ≡ None
  unfolding total_of
  total-over h =
      let more : volume_max < v + (s.rate.0 * (s.end.0 - s.start.0) + total_of l) = omega arith in
      rw (both-not (all_of rate_ok (s ∷ l)) _ (lt-leb _ _ more))

  module _ (r : VolumeSegment) (is : r ≡ volume_of s) where
    pub total-go : s.rate.0 ≤ rate_max → total_from v (s ∷ l) ≡ total_from (v + r.volume.0) l
    unfolding total_of
    total-go h =
        rw (holds s r is, all_go rate_ok s l (le-leb _ _ h), add_assoc v (s.rate.0 * (s.end.0 - s.start.0)) (total_of l))
