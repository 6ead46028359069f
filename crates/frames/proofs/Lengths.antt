-- A frame is refused where its line fails the test, else answered: both ways by what the test's call has told.
use mathlib.Core.Bool.{Bool, true, false}
use mathlib.Core.Path.{◌≡◌, sym, ◌∙◌}
use Rattle.units.specs.Logic.{unless}
use Rattle.units.proofs.Logic.{unless-go, unless-stop}
use Rattle.units.proofs.Choice.{told-yes, told-no}

module _ {A : Type 0} {r t : Bool} {x : A} (told : r ≡ t) (a b : A) where
  pub line_refused : r ≡ false → x ≡ a → x ≡ unless t a b
  line_refused e q = q ∙ sym (unless-stop t a b (told-no told e))

  pub line-answered : r ≡ true → x ≡ b → x ≡ unless t a b
  line-answered e q = q ∙ sym (unless-go t a b (told-yes told e))
