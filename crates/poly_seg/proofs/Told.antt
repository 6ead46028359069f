-- What a result tells of its number, and what ranges of places are.
use mathlib.Core.Path.{◌≡◌, ap, ◌∙◌}
use Prim.Native.Nat.{ℕ, ◌-◌}
use mathlib.Core.List.{List}
use native.Mathlib.Omega.{arith}
use lib.ListN.{take, drop}
use Rattle.std.specs.Prelude.{Option, None, Result, Ok, Err, ok_or}
use Rattle.units.specs.declared.refusal.Refusal.{Refusal}
use Rattle.units.specs.Refusal.{number_of, told}
use Rattle.units.proofs.Refusals.{told-once}

-- no refusal has the number 0
pub number-some : (e : Refusal) → number_of e ≡ 0 → ⊥
number-some e h = cc (told-once (Err e) (Ok tt) h)

-- an error that `?` hands on
pub told_as : {A X : Type 0} (r : Result A Refusal) (y e d : Refusal) (o : Option X) → r ≡ Err y → y ≡ e → Err e ≡ ok_or o d → o ≡ None → told r ≡ number_of d
told_as r y e d o f g h k = ap told (f ∙ ap Err (g ∙ same h k))
  where
    same : Err e ≡ ok_or o d → o ≡ None → e ≡ d
    same h k = cc

-- the first n places, as a range from the beginning lends them
pub front : {A : Type 0} (n : ℕ) (l : List A) → take (n - 0) (drop 0 l) ≡ take n l
front n l = ap (λ (k : ℕ). take k l) (omega arith)
