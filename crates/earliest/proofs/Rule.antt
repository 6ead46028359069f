-- All that is asked of an end rule, in one law, and that the rule of every edition keeps it.
use Prim.Native.Nat.{ℕ, ◌<◌, ◌≤◌}
use mathlib.Core.Path.{◌≡◌, refl, sym, ◌∙◌}
use mathlib.Core.List.{List, [], ◌∷◌}
use mathlib.Core.Logic.{⊎_elim, ◌⊎◌, inl, inr}
use native.Mathlib.Omega.{arith}
use Rattle.units.specs.declared.Date.{Date}
use Rattle.segmentation.specs.declared.VolumeSegment.{VolumeSegment}
use Rattle.std.specs.Prelude.{Option, Some, None}
use Rattle.segmentation.specs.End.{close_of, end_of}
use Rattle.segmentation.proofs.EndLaws.{end-ends, end-monotone-start, end-none-start}

-- an end is not before its tick and by the date hi; where a tick has an end, each earlier one has an end that is no later
pub record Orderly (E : ℕ → Option Date) (hi : ℕ) : Type 0 where
  pub forth : (s : ℕ) (e : Date) → E s ≡ Some e → s ≤ e.0
  pub by : (s : ℕ) (e : Date) → E s ≡ Some e → e.0 ≤ hi
  pub sooner : (s u : ℕ) (e : Date) → s ≤ u → E u ≡ Some e → (d : Date) × ((E s ≡ Some d) × (d.0 ≤ e.0))

pub no_end : (e : Date) → None ≡ Some e → ⊥
no_end e h = let z : ◌≡◌ {A = ℕ} 0 1 = cc in omega arith

pub one_end : (d e : Date) (x : Option Date) → x ≡ Some d → x ≡ Some e → d.0 ≡ e.0
one_end d e x h k = let z : Some d ≡ Some e = sym h ∙ k in let q : d.0 ≡ e.0 = cc in q

end-cases : (x : Option Date) → (x ≡ None) ⊎ ((d : Date) × (x ≡ Some d))
end-cases None = inl refl
end-cases (Some d) = inr (d, refl)

-- the window's end is the same from every tick
close-any : (l : List VolumeSegment) (lo hi s : ℕ) → lo < hi → close_of lo l ≡ hi → close_of s l ≡ hi
unfolding close_of
close-any [] lo hi s h e = absurd (omega arith)
close-any (x ∷ l) lo hi s h e = e

pub end-orderly : (k : ℕ) (l : List VolumeSegment) (v lo hi : ℕ) → 0 < v → lo < hi → close_of lo l ≡ hi → Orderly (λ (s : ℕ). end_of k l s v hi) hi
end-orderly k l v lo hi pos some close =
    record {
      forth = λ s e z. (end-ends l s v pos k hi e z).forth;
      by = λ s e z. (end-ends l s v pos k hi e z).by;
      sooner = λ s u e le z.
          ⊎_elim
          (λ (n : end_of k l s v hi ≡ None).
          let last : close_of s l ≤ hi = omega (arith, close-any l lo hi s some close) in
          absurd (no_end e (sym (end-none-start k l s v hi pos last n u hi le) ∙ z)))
          (λ (q : (d : Date) × (end_of k l s v hi ≡ Some d)). (q.0, (q.1, end-monotone-start l s u v le k hi hi q.0 e q.1 z)))
          (end-cases (end_of k l s v hi));
    }
