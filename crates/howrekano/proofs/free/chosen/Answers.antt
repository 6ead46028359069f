-- `howrekano::free::chosen` meets its contract, refusal by refusal: a record that keeps its rules has what the search and the answer ask.
use mathlib.Core.Bool.{true}
use mathlib.Core.Path.{◌≡◌, sym, ap, ◌∙◌}
use Rattle.units.specs.declared.Offer.{Offer}
use Rattle.units.specs.Limits.{bundle_ok}
use Rattle.units.proofs.Choice.{told-yes, told-no}
use Rattle.free_list.specs.Offer.{fit_at}
use Rattle.free_list.specs.Granted.{none_chosen}
use Rattle.seg.specs.DryRun.{found_of}
use Rattle.seg.proofs.Facts.{facts}
use Rattle.seg.proofs.Calls.{chosen-bundle, chosen-as}
use Rattle.howrekano.specs.Words.{free_volume_in}
use Rattle.howrekano.proofs.FreeDryRun.{some, ruled, dated, short}
use Rattle.howrekano.proofs.free.chosen.Goals as goal
use Rattle.howrekano.proofs.free.chosen.Goals.{Else-not-ok_at, In-Some}

-- the test that holds
bundle-holds : (c : Else-not-ok_at) → let a = c.args in bundle_ok a.at a.bundle ≡ true
bundle-holds c = told-yes c.ok_at.ensures c.if-not-ok_at.false

-- what the search found
found : (c : In-Some) →
    let a = c.args in
    found_of (free_volume_in a.choices.now a.window a.rates.now a.rate_count a.delays.now a.delay_count a.free.now a.count) a.at.0 a.bundle.size.0 ≡ fit_at c.in-Some.field-0.place c.in-Some.field-0.send
found c = sym c.find_offer.ensures ∙ c.in-Some.is

pub returns-then-not-ok_at : goal.returns-then-not-ok_at
returns-then-not-ok_at c =
    c.refused.ensures ∙ ap none_chosen c.number.ensures ∙ sym (chosen-bundle _ _ _ (told-no c.ok_at.ensures c.if-not-ok_at.true))

pub shared_ref_as_front-find_offer : goal.shared_ref_as_front-find_offer
shared_ref_as_front-find_offer c = (facts _ c.requires).contact.rates.1

pub shared_ref_as_front-find_offer-2 : goal.shared_ref_as_front-find_offer-2
shared_ref_as_front-find_offer-2 c = (facts _ c.requires).few

pub find_offer-requires : goal.find_offer-requires
find_offer-requires c =
    let fits = bundle-holds (goal.at.find_offer-requires c).Else-not-ok_at in
    record { sized = some _ _ _ c.requires fits; ruled = ruled _ _ _ c.requires fits }

pub returns-in_default : goal.returns-in_default
returns-in_default c =
    let e = goal.at.returns-in_default c in
    c.refused-in_default.ensures ∙ ap none_chosen c.number-in_default.ensures ∙ sym (chosen-as _ _ _ (bundle-holds e.Else-not-ok_at) (sym c.find_offer.ensures ∙ c.in_default.is))

pub shared_ref_as_front-find_delays : goal.shared_ref_as_front-find_delays
shared_ref_as_front-find_delays c = (facts _ c.requires).contact.delays.1

pub answer-offer-requires : goal.answer-offer-requires
answer-offer-requires c =
    let e = goal.at.answer-offer-requires c in
    record {
      dated = dated _ _ _ c.requires (bundle-holds e.Else-not-ok_at) _ _ (found e.In-Some);
      short = rw c.find_delays-found.ensures (short _ c.args.at c.args.bundle c.requires _ _);
    }

pub returns : goal.returns
returns c =
    let e = goal.at.returns c in
    ap (λ (o : Offer). record { offer = o; place = c.in-Some.field-0.place }) (rw c.find_delays-found.ensures at c.answer-offer.ensures)
    ∙ sym (chosen-as _ _ _ (bundle-holds e.Else-not-ok_at) (found e.In-Some))
