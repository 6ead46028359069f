-- A tick is booked below a priority exactly if its level is at most that priority; and what the search tells in levels it tells in 01's values.
use Prim.Native.Nat.{ℕ, zero, suc, ◌≤◌}
use native.Mathlib.Omega.{arith}
use lib.Dec.{ltb→lt, lt→ltb}
use lib.IntN.{pos}
use lib.Signed.{◌<ℤ◌, lt_z_yes}
use Rattle.std.specs.Prelude.{Option, Some, None}
use Rattle.units.specs.declared.Date.{Date}
use Rattle.bookings.specs.Search.{Run}
use Rattle.std.specs.declared.ops.ControlFlow.TheVariants.{Continue, Break}
use Rattle.bookings.specs.Listed.{value_of}
use Rattle.earliest.specs.Start.{Start}
use Rattle.earliest.proofs.Search.{Tells}

pub level-below : (p n : ℕ) → n ≤ p → value_of (record { 0 = n }) <ℤ pos p
level-below p zero h = lt_z_yes tt
level-below p (suc n) h = lt_z_yes (lt→ltb n p (omega arith))

pub below-level : (p n : ℕ) → value_of (record { 0 = n }) <ℤ pos p → n ≤ p
below-level p zero h = omega arith
below-level p (suc n) h = omega (arith, ltb→lt n p h.lt)

-- the same starts, for ticks of which the same holds
pub start-as : (E : ℕ → Option Date) (A B : ℕ → Type 0) (lo hi t s : ℕ) → ((u : ℕ) → A u → B u) → Start E A lo hi t s → Start E B lo hi t s
start-as E A B lo hi t s f z =
    record {
      asked = z.asked;
      inside = z.inside;
      end = z.end;
      ends = z.ends;
      by = z.by;
      free = λ u x y. f u (z.free u x y);
      itself = f s z.itself;
    }

-- the search tells the same of the same ticks
pub tells_as : (P Q : ℕ → Type 0) → ((s : ℕ) → P s → Q s) → ((s : ℕ) → Q s → P s) → (x : Run) → Tells P x → Tells Q x
unfolding Tells
tells_as P Q f g (Break run) q = record { is = f _ q.is; least = λ u z. q.least u (g u z) }
tells_as P Q f g (Continue (Some run)) q = λ s z. q s (g s z)
tells_as P Q f g (Continue None) q = λ s z. q s (g s z)
