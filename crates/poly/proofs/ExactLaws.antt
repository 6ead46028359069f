-- 02, R-6: what mode 2 promises of an end, over twelve times the integral and no more; and where it is the first tick.
use Prim.Native.Nat.{ℕ, ◌-◌, ◌*◌, ◌≤◌, ◌<◌}
use mathlib.Core.Bool.{Bool, true, false}
use mathlib.Core.Path.{◌≡◌, refl, sym, ◌∙◌}
use mathlib.Core.Logic.{⊎_elim, ◌⊎◌, inl, inr}
use native.Mathlib.Omega.{arith}
use lib.IntN.{ℤ, pos}
use lib.Signed.{lt_z}
use Rattle.units.specs.declared.Date.{Date}
use Rattle.std.specs.Prelude.{Some}
use Rattle.poly.specs.declared.Polynome.{Polynome}
use Rattle.poly.specs.Poly.{capacity_to}
use Rattle.poly.specs.Search.{area_from, find_end}
use Rattle.poly.specs.Exact.{capacity12, Carries, First, rate_on, NotBelow, Above}
use Rattle.poly.proofs.EndLaws.{find-end-exact, find-end-first, find-end-rises}
use Rattle.poly.proofs.Order.{less-antisym}
use Rattle.poly.proofs.Simpson.{stays, rises}

-- reached: exactly, or more
reached : (a t : ℤ) (b : Bool) → lt_z t a ≡ b → lt_z a t ≡ false → (a ≡ t) ⊎ (lt_z t a ≡ true)
reached a t true e h = inr e
reached a t false e h = inl (less-antisym a t h e)

module _ (p : Polynome) where
  -- what is sent from x to y, in twelfths
  sent-exact : (x y : ℕ) → area_from (capacity_to 2 p) (capacity_to 2 p x) y ≡ capacity12 p x y
  unfolding area_from capacity_to capacity12
  sent-exact x y = refl

  -- where the rate is not below 0 the capacity rises or stays; where it is above 0 at the ticks as well it rises
  module _ (a b : ℕ) (never : NotBelow p a b) where
    pub capacity-stays : (i j : ℕ) → a ≤ i → i ≤ j → j ≤ b → lt_z (capacity_to 2 p j) (capacity_to 2 p i) ≡ false
    unfolding capacity_to rate_on
    capacity-stays i j h k l = stays _ _ _ _ p.offset.0 a b never i j h k l

    pub capacity-rises : Above p a b → (i j : ℕ) → a ≤ i → i < j → j ≤ b → lt_z (capacity_to 2 p i) (capacity_to 2 p j) ≡ true
    unfolding capacity_to rate_on
    capacity-rises always i j h k l = rises _ _ _ _ p.offset.0 a b never always i j h k l

  module _ (a b x v : ℕ) (e : Date) (size : 1 ≤ v) (found : find_end (capacity_to 2 p) a b x (12 * v) ≡ Some e) where
    some : 1 ≤ 12 * v
    some = omega arith

    -- an end has exactly the size, or it has more and one tick earlier has less
    pub find-end-integral : Carries p x e.0 v
    find-end-integral =
        let k = rw (sent-exact x e.0, sent-exact x (e.0 - 1)) at (find-end-exact (capacity_to 2 p) a b x (12 * v) e some found) in
        ⊎_elim (λ s. inl s) (λ s. ⊎_elim (λ q. inl q) (λ q. inr (q, s)) (reached _ _ _ refl k.0)) k.1

    module _ (never : NotBelow p x b) where
      -- no earlier tick has the size, unless it is exactly the size
      pub find-end-stays : (capacity12 p x e.0 ≡ pos (12 * v)) ⊎ First p x e.0 v
      find-end-stays =
          ⊎_elim
          (λ s. inl (sym (sent-exact x e.0) ∙ s))
          (λ s. inr (λ i h k. rw (sent-exact x i) at (s i h k)))
          (find-end-first (capacity_to 2 p) a b x (12 * v) e some found (capacity-stays x b never))

      -- the end is the first tick
      pub find-end-tick : Above p x b → First p x e.0 v
      find-end-tick always i h k =
          rw (sent-exact x i) at
          (find-end-rises (capacity_to 2 p) a b x (12 * v) e some found (capacity-rises x b never always) i h k)
