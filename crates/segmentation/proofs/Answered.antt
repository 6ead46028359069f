-- The numbers of an answer with one-way light times: 0, or 8 where no delay segment gives one.
use Rattle.std.specs.Prelude.{Option, Some, None}
use Prim.Native.Nat.{ℕ}
use mathlib.Core.Path.{◌≡◌, sym}
use Rattle.segmentation.specs.declared.Delays.{Delays}
use Rattle.segmentation.specs.Delay.{answer_of}

pub answer-number : (n : ℕ) → (n ≡ 0 → ⊥) × (n ≡ 8 → ⊥) → (s e : ℕ) (d : Option Delays) → (answer_of s e d).number ≡ n → ⊥
answer-number n other s e (Some d) h = other.0 (sym h)
answer-number n other s e None h = other.1 (sym h)
