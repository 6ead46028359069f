-- `contact::span::covering` meets its contract: the count, then the segments.
use mathlib.Core.Path.{◌≡◌, sym, ◌∙◌}
use lib.ListN.{take}
use Rattle.contact.proofs.Spans.{covers-no, covers-is}
use Rattle.contact.proofs.Told.{some-if}
use Rattle.contact.proofs.span.covering.Goals as goal

pub returns-in_err-list : goal.returns-in_err-list
returns-in_err-list g c = rw c.from_residual.ensures (covers-no _ _ _ _ c.in_err-list.ensures)

pub returns : goal.returns
returns g c =
    let h = c.in_ok-list.ensures in
    rw c.then_some.ensures
    (some-if (λ l. l.now ≡ take c.args.count c.args.places.now) _ _ _ (rw h.2 at c.covers.ensures ∙ sym (covers-is _ _ _ _ h.0 h.1)) h.2)
