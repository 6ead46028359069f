-- `seg::FreeVolume::found` meets its contract, refusal by refusal: a record that keeps its rules has what the search and the answer ask.
use mathlib.Core.Bool.{true}
use mathlib.Core.Path.{◌≡◌, sym, ap, ◌∙◌}
use Prim.Native.Nat.{◌<◌}
use Rattle.units.specs.Limits.{bundle_ok}
use Rattle.units.proofs.Choice.{told-yes, told-no}
use Rattle.units.proofs.Loads.{asked-load, load}
use Rattle.free_list.specs.Offer.{fit_at}
use Rattle.free_list.specs.Granted.{none_chosen}
use Rattle.seg.specs.DryRun.{found_of}
use Rattle.seg.proofs.Facts.{facts, answer-asks}
use Rattle.seg.proofs.Calls.{chosen-bundle, chosen-as}
use Rattle.seg.proofs.FreeVolume.found.Goals as goal
use Rattle.seg.proofs.FreeVolume.found.Goals.{Else-not-ok_at, In-Some}

-- the test that holds
bundle-holds : (c : Else-not-ok_at) → let a = c.args in bundle_ok a.at a.bundle ≡ true
bundle-holds c = told-yes c.ok_at.ensures c.if-not-ok_at.false

some : (c : Else-not-ok_at) → 0 < c.args.bundle.size.0
some c = (load _ (asked-load _ _ (bundle-holds c))).some

-- what the search found
found : (c : In-Some) →
    let a = c.args in
    found_of a.self.now a.at.0 a.bundle.size.0 ≡ fit_at c.in-Some.fit.place c.in-Some.fit.send
found c = sym (rw (c.rates.ensures, c.listed.ensures) at c.in-Some.ensures)

pub returns-then-not-ok_at : goal.returns-then-not-ok_at
returns-then-not-ok_at c =
    c.refused.ensures ∙ ap none_chosen c.number.ensures ∙ sym (chosen-bundle _ _ _ (told-no c.ok_at.ensures c.if-not-ok_at.true))

pub rates-requires : goal.rates-requires
rates-requires c = (facts _ c.requires).contact.rates.1

pub listed-requires : goal.listed-requires
listed-requires c = (facts _ c.requires).few

pub find_offer-requires : goal.find_offer-requires
find_offer-requires c =
    let q = facts _ c.requires in
    rw (c.rates.ensures, c.listed.ensures)
    (record { sized = some (goal.at.find_offer-requires c).Else-not-ok_at; ruled = record { from = _; to = _; run = q.contact.run; rules = q.rules } })

pub returns-in_default : goal.returns-in_default
returns-in_default c =
    c.refused-in_default.ensures ∙ ap none_chosen c.number-in_default.ensures
    ∙ sym (chosen-as _ _ _ (bundle-holds (goal.at.returns-in_default c).Else-not-ok_at) (sym (rw (c.rates.ensures, c.listed.ensures) at c.in_default.ensures)))

pub answer-requires : goal.answer-requires
answer-requires c =
    let q = answer-asks _ (facts _ c.requires) _ _ (some (goal.at.answer-requires c).Else-not-ok_at) _ _ (found (goal.at.answer-requires c).In-Some) in
    record { kept = q.0; dated = q.1 }

pub returns : goal.returns
returns c =
    rw c.answer.ensures (sym (chosen-as _ _ _ (bundle-holds (goal.at.returns c).Else-not-ok_at) (found (goal.at.returns c).In-Some)))
