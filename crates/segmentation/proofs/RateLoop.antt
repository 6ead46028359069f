-- The states of the loops over the rate segments: what is left of the list has the answer that is asked.
use Rattle.std.specs.Prelude.{Option, None}
use Rattle.units.specs.declared.Date.{Date}
use Prim.Native.Nat.{ℕ, ◌+◌, ◌-◌, ◌*◌, ◌<◌, ◌≤◌}
use mathlib.Core.Path.{◌≡◌, ◌∙◌}
use mathlib.Core.List.{List, [], ◌∷◌}
use native.Mathlib.Omega.{arith}
use lib.ListN.{length, drop}
use Rattle.units.specs.Limits.{volume_max}
use Rattle.units.proofs.Loop.{Left, left-first, left_step, left_here, left_end}
use Rattle.segmentation.specs.declared.VolumeSegment.{VolumeSegment}
use Rattle.segmentation.specs.Granted.{SegOk, Run, Runs, Covers, ticks_of}
use Rattle.segmentation.specs.Capacity.{rate_of, capacity}
use Rattle.segmentation.specs.End.{by_deadline, end_of}
use Rattle.segmentation.proofs.Capacity.{cap-add, cap-none}
use Rattle.segmentation.proofs.SegEnd.{carried_of}
use Rattle.segmentation.proofs.Exact.{end_none, end-skip, end-here, end_on, next-covers}

-- the segment at the place, of a run
module _ (s : VolumeSegment) (l : List VolumeSegment) where
  pub run_ok : (f : ℕ) → Run f (s ∷ l) → SegOk s
  unfolding Run
  run_ok f r = r.1

  pub run-from : (f : ℕ) → Run f (s ∷ l) → s.start.0 ≡ f
  unfolding Run
  run-from f r = r.0

  pub run_on : (f : ℕ) → Run f (s ∷ l) → Run s.end.0 l
  unfolding Run
  run_on f r = r.2

-- `volume_between`: the sum so far, with the capacity of what is left.
abbrev pub sum_on : ℕ → ℕ → ℕ → List VolumeSegment → ℕ
sum_on a b sum l = sum + capacity l a b

pub record Adding (l : List VolumeSegment) (n a b i sum : ℕ) : Type 0 where
  pub left : Left (sum_on a b) l n 0 i sum
  pub small : sum ≤ i * volume_max
  pub runs : Runs (drop i l)

pub add-first : (l : List VolumeSegment) (n a b : ℕ) → Runs l → Adding l n a b 0 0
add-first l n a b r = record { left = left-first _ _ _ _; small = omega arith; runs = r }

pub add-end : (l : List VolumeSegment) (n a b i sum : ℕ) → Adding l n a b i sum → length l ≤ i → sum ≡ capacity l a b
add-end l n a b i sum q h =
    let e : 0 + capacity l a b ≡ sum + capacity [] a b = left_end (sum_on a b) l n 0 i sum q.left h in
    omega (arith, e, cap-none a (b - a))

module _ (l : List VolumeSegment) (n a b i sum : ℕ) (s : VolumeSegment) (q : Adding l n a b i sum) (here : drop i l ≡ s ∷ drop (i + 1) l) where
  add-run : Run q.runs.from (s ∷ drop (i + 1) l)
  add-run = rw here at q.runs.run

  pub add_ok : SegOk s
  add_ok = run_ok s (drop (i + 1) l) q.runs.from add-run

  pub add_step : i < n → (m sum' : ℕ) → m ≡ capacity (s ∷ []) a b → m ≤ volume_max → sum' ≡ sum + m → Adding l n a b (i + 1) sum'
  add_step lt m sum' e le f =
      let ok = add_ok in
      let run = run_on s (drop (i + 1) l) q.runs.from add-run in
      let add = cap-add s (drop (i + 1) l) a (b - a) (omega arith) run in
      record {
        left = left_step (sum_on a b) l n 0 i sum q.left s here lt sum' (omega (arith, add));
        small = omega (arith, q.small);
        runs = record { from = s.end.0; run = run };
      }

-- `find_end`: the date and what is still to send.
abbrev pub end_from : ℕ → ℕ → ℕ × ℕ → List VolumeSegment → (Option Date)
end_from k d s l = end_of k l s.0 s.1 d

pub record Seeking (k : ℕ) (l : List VolumeSegment) (n d a v i at rest : ℕ) : Type 0 where
  pub left : Left (end_from k d) l n (a, v) i (at, rest)
  pub some : 0 < rest
  pub covers : Covers at (drop i l)

pub seek-first : (k : ℕ) (l : List VolumeSegment) (n d a v : ℕ) → 0 < v → Covers a l → Seeking k l n d a v 0 a v
seek-first k l n d a v p c = record { left = left-first _ _ _ _; some = p; covers = c }

pub seek-none : (k : ℕ) (l : List VolumeSegment) (n d a v i at rest : ℕ) → Seeking k l n d a v i at rest → length l ≤ i → end_of k l a v d ≡ None
seek-none k l n d a v i at rest q h = left_end (end_from k d) l n (a, v) i (at, rest) q.left h ∙ end_none k at rest d q.some

module _ (k : ℕ) (l : List VolumeSegment) (n d a v i at rest : ℕ) (s : VolumeSegment) (q : Seeking k l n d a v i at rest) (here : drop i l ≡ s ∷ drop (i + 1) l) where
  seek-covers : Covers at (s ∷ drop (i + 1) l)
  seek-covers = rw here at q.covers

  pub seek_ok : SegOk s
  seek_ok = run_ok s (drop (i + 1) l) seek-covers.from seek-covers.run

  pub seek-from : s.start.0 ≤ at
  seek-from = omega (arith, run-from s (drop (i + 1) l) seek-covers.from seek-covers.run, seek-covers.below)

  -- the segment covers the rest
  pub seek-here : at ≤ s.end.0 → rest ≤ carried_of s at → end_of k l a v d ≡ by_deadline d (at + ticks_of k rest (rate_of s))
  seek-here h w =
      left_here (end_from k d) l n (a, v) i (at, rest) q.left s here ∙ end-here k s (drop (i + 1) l) at rest d q.some seek-covers h w

  -- the next turn's date and rest
  module _ (lt : i < n) (at' rest' : ℕ) where
    -- it ends before the date
    pub seek-skip : s.end.0 < at → at' ≡ at → rest' ≡ rest → Seeking k l n d a v (i + 1) at' rest'
    seek-skip h e f =
        rw (e, f)
        (record {
          left = left_step (end_from k d) l n (a, v) i (at, rest) q.left s here lt (at, rest) (end-skip k s (drop (i + 1) l) at rest d q.some seek-covers h);
          some = q.some;
          covers = next-covers k s (drop (i + 1) l) at rest d q.some seek-covers at (omega arith);
        })

    -- it is used up
    pub seek-on : at ≤ s.end.0 → carried_of s at < rest → at' ≡ s.end.0 → rest' ≡ rest - carried_of s at → Seeking k l n d a v (i + 1) at' rest'
    seek-on h w e f =
        rw (e, f)
        (record {
          left = left_step (end_from k d) l n (a, v) i (at, rest) q.left s here lt (s.end.0, rest - carried_of s at)
              (end_on k s (drop (i + 1) l) at rest d q.some seek-covers h w);
          some = omega arith;
          covers = next-covers k s (drop (i + 1) l) at rest d q.some seek-covers s.end.0 (omega arith);
        })
