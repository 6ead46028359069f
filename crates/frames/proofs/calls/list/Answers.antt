-- `frames::calls::list` meets its contract.
use mathlib.Core.Path.{sym}
use Rattle.units.proofs.Logic.{unless-go, unless-stop}
use Rattle.units.proofs.Choice.{told-yes, told-no}
use Rattle.frames.specs.Calls.{list_frame}
use Rattle.frames.proofs.Told.{stored-as}
use Rattle.frames.proofs.calls.list.Goals as goal

pub returns-then-not-has : goal.returns-then-not-has
unfolding list_frame
returns-then-not-has c =
    stored-as _ (sym (unless-stop _ _ _ (told-no c.has.ensures c.if-not-has.true))) c.put_number.ensures

pub returns : goal.returns
unfolding list_frame
returns c =
    stored-as _ (sym (unless-go _ _ _ (told-yes c.has.ensures c.if-not-has.false))) c.put_list.ensures
