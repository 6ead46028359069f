-- `walk::listed_ok` meets its contract: the room that the walk finds is the one that is named.
use Prim.Native.Nat.{ℕ}
use mathlib.Core.Bool.{Bool, true, false}
use mathlib.Core.Path.{◌≡◌, refl, sym, ◌∙◌}
use lib.Dec.{eqb}
use borrow.Author.Tests.{eqb-true, eq-eqb}
use Rattle.std.specs.Prelude.{Some, None}
use Rattle.std.specs.Option.{option_eq}
use Rattle.units.specs.declared.Volume.{Volume}
use Rattle.units.specs.Logic.{both, pick}
use Rattle.units.proofs.Logic.{same_test}
use Rattle.free_list.proofs.walk.listed_ok.Goals as goal

swapped : (a b : ℕ) → eqb a b ≡ eqb b a
swapped a b = same_test _ _ (λ h. eq-eqb b a (sym (eqb-true a b h))) (λ h. eq-eqb a b (sym (eqb-true b a h)))

same_room : (b : Bool) (r room : Volume) → option_eq (λ (x y : Volume). eqb x.0 y.0) (pick b (Some r) None) (Some room) ≡ both b (eqb room.0 r.0)
unfolding both
same_room true r room = swapped r.0 room.0
same_room false r room = refl

pub returns : goal.returns
returns c = c.eq.ensures ∙ rw c.room_in.ensures (same_room _ _ _)
