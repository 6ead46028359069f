-- `units::blank::unused` meets its contract: what is left of the list answers as the whole.
use mathlib.Core.Path.{sym, ◌∙◌}
use Rattle.units.proofs.Each.{all-end, all-fails, all-on}
use Rattle.units.proofs.blank.unused.Goals as goal

pub returns-then-not-is_blank : goal.returns-then-not-is_blank
returns-then-not-is_blank g c =
    sym (all-fails _ _ _ c.loop-place.invariant c.place-item.result c.loop-place-test.true c.place-item.is (sym c.is_blank.ensures ∙ c.if-not-is_blank.true))

pub returns : goal.returns
returns g c = sym (all-end _ _ _ c.loop-place.invariant c.loop-place-test.false)

pub loop-place-preserved : goal.loop-place-preserved
loop-place-preserved g c =
    all-on _ _ _ c.loop-place.invariant c.place-item.result c.loop-place-test.true c.place-item.is (sym c.is_blank.ensures ∙ c.if-not-is_blank.false)
