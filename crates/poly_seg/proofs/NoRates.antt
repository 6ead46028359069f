-- With no rates there is no capacity: a listed volume is 0, and a send interval inside a segment is an offer of size 0.
use Prim.Native.Nat.{ℕ, ◌-◌, ◌≤◌}
use mathlib.Core.Bool.{true}
use mathlib.Core.Path.{◌≡◌, sym, ap, ◌∙◌}
use mathlib.Core.List.{[]}
use mathlib.Core.Logic.{⊎_elim}
use native.Mathlib.Omega.{arith}
use lib.Dec.{leb, eqb}
use borrow.Author.Tests.{leb-true, le-leb, lt-leb, eq-eqb, ne_eqb}
use Rattle.units.proofs.Logic.{both-fst, both-snd}
use Rattle.units.proofs.Numbers.{eq-or-ne}
use Rattle.segmentation.specs.declared.VolumeSegment.{VolumeSegment}
use Rattle.segmentation.specs.Capacity.{capacity}
use Rattle.segmentation.proofs.Capacity.{cap-none}
use Rattle.free_list.specs.Listed.{segment_ok}
use Rattle.free_list.proofs.Offered.{Here}

no-capacity : (a b : ℕ) → capacity [] a b ≡ 0
no-capacity a b = cap-none a (b - a)

zero_test : (v : ℕ) → leb v 0 ≡ eqb v 0
zero_test v =
    ⊎_elim
    (λ (h : v ≡ 0). le-leb v 0 (omega arith) ∙ sym (eq-eqb v 0 h))
    (λ (h : v ≡ 0 → ⊥). lt-leb v 0 (omega arith) ∙ sym (ne_eqb v 0 h))
    (eq-or-ne v 0)

-- no volume is within no capacity
pub bare_test : (v a b : ℕ) → leb v (capacity [] a b) ≡ eqb v 0
bare_test v a b = ap (leb v) (no-capacity a b) ∙ zero_test v

-- a segment in its turn ends in the window
pub segment-by : (low hi : ℕ) (g : VolumeSegment) → segment_ok [] low hi g ≡ true → g.end.0 ≤ hi
unfolding segment_ok
segment-by low hi g e = leb-true _ _ (both-fst _ _ (both-snd _ _ (both-snd _ _ e)))

-- where the send stands in the segment, nothing of size 0 is asked of it
pub bare-here : (g : VolumeSegment) (s e : ℕ) → g.start.0 ≤ s → s ≤ e → e ≤ g.end.0 → Here 1 [] 0 g s e 0
bare-here g s e from forth by =
    record {
      from = from;
      room = omega arith;
      ends = record { forth = forth; by = by; near = (omega (arith, no-capacity s e), omega arith) };
    }
