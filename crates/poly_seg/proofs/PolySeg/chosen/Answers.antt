-- `poly_seg::PolySeg::chosen` meets its contract, refusal by refusal: a record that keeps its rules has what the search and the answer ask.
use mathlib.Core.Bool.{true}
use mathlib.Core.Path.{◌≡◌, sym, ap, ◌∙◌}
use Rattle.units.specs.Limits.{bundle_ok}
use Rattle.units.proofs.Choice.{told-yes, told-no}
use Rattle.units.proofs.Loads.{asked-load, load}
use Rattle.free_list.specs.Granted.{none_chosen}
use Rattle.poly_seg.proofs.Facts.{facts, found-dates}
use Rattle.poly_seg.proofs.Calls.{chosen-bundle, chosen-as}
use Rattle.poly_seg.proofs.PolySeg.chosen.Goals as goal
use Rattle.poly_seg.proofs.PolySeg.chosen.Goals.{Else-not-ok_at}

-- the test that holds
bundle-holds : (c : Else-not-ok_at) → let a = c.args in bundle_ok a.at a.bundle ≡ true
bundle-holds c = told-yes c.ok_at.ensures c.if-not-ok_at.false

pub returns-then-not-ok_at : goal.returns-then-not-ok_at
returns-then-not-ok_at c =
    c.refused.ensures ∙ ap none_chosen c.number.ensures ∙ sym (chosen-bundle _ _ _ (told-no c.ok_at.ensures c.if-not-ok_at.true))

pub search-requires-clause-small : goal.search-requires-clause-small
search-requires-clause-small c = (load _ (asked-load _ _ (bundle-holds (goal.at.search-requires-clause-small c).Else-not-ok_at))).size

pub returns-in_default : goal.returns-in_default
returns-in_default c =
    c.refused-in_default.ensures ∙ ap none_chosen c.number-in_default.ensures
    ∙ sym (chosen-as c.args.self _ _ (bundle-holds (goal.at.returns-in_default c).Else-not-ok_at) (sym c.search.ensures ∙ c.in_default.is))

pub answer-requires-clause-dated : goal.answer-requires-clause-dated
answer-requires-clause-dated c =
    found-dates _ (facts _ c.requires) _ _ (load _ (asked-load _ _ (bundle-holds (goal.at.answer-requires-clause-dated c).Else-not-ok_at))).some
    c.in-Some.field-0.place c.in-Some.field-0.send (sym c.search.ensures ∙ c.in-Some.is)

pub returns : goal.returns
returns c =
    rw c.answer.ensures (sym (chosen-as c.args.self _ _ (bundle-holds (goal.at.returns c).Else-not-ok_at) (sym c.search.ensures ∙ c.in-Some.is)))
