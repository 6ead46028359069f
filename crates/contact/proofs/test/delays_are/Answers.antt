-- `contact::test::delays_are` meets its contract: the count and the dates, then the delays.
use mathlib.Core.Path.{◌≡◌, sym, ◌∙◌}
use lib.ListN.{take}
use Rattle.units.proofs.Logic.{both_go, both-stop}
use Rattle.contact.specs.Segments.{delays_ok}
use Rattle.contact.proofs.Told.{some-if}
use Rattle.contact.proofs.test.delays_are.Goals as goal

pub returns-in_err-list : goal.returns-in_err-list
unfolding delays_ok
returns-in_err-list c = rw c.from_residual.ensures (both-stop _ _ c.in_err-list.ensures)

pub returns : goal.returns
unfolding delays_ok
returns c =
    let h = c.in_ok-list.ensures in
    rw c.then_some.ensures
    (some-if (λ l. l.now ≡ take c.args.count c.args.delays.now) _ _ _ (rw h.1 at c.short.ensures ∙ sym (both_go _ _ h.0)) h.1)
