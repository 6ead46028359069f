-- `howrekano::polynomial::chosen` meets its contract, refusal by refusal: a record that keeps its rules has what the search and the answer ask.
use mathlib.Core.Bool.{true}
use mathlib.Core.Path.{◌≡◌, sym, ap, ◌∙◌}
use Rattle.units.specs.declared.Offer.{Offer}
use Rattle.units.specs.Limits.{bundle_ok}
use Rattle.units.proofs.Choice.{told-yes, told-no}
use Rattle.free_list.specs.Granted.{none_chosen}
use Rattle.poly_seg.specs.DryRun.{found_of}
use Rattle.poly_seg.proofs.Facts.{facts}
use Rattle.poly_seg.proofs.Calls.{chosen-bundle, chosen-as}
use Rattle.howrekano.specs.Words.{poly_seg_in}
use Rattle.howrekano.proofs.PolynomialDryRun.{size-asks, small, search_is, dated, short}
use Rattle.howrekano.proofs.polynomial.chosen.Goals as goal
use Rattle.howrekano.proofs.polynomial.chosen.Goals.{Else-not-ok_at, After-find_offer}

-- the test that holds
bundle-holds : (c : Else-not-ok_at) → let a = c.args in bundle_ok a.at a.bundle ≡ true
bundle-holds c = told-yes c.ok_at.ensures c.if-not-ok_at.false

-- the search over the terms and the size is the record's
found : (c : After-find_offer) → bundle_ok c.args.at c.args.bundle ≡ true → let a = c.args in c.find_offer.result ≡ found_of (poly_seg_in a.choices.now a.window a.polynome a.delays.now a.delay_count a.free.now a.count) a.at.0 a.bundle.size.0
found c fits = c.find_offer.ensures ∙ search_is _ _ _ c.requires fits _ c.terms-terms.ensures.terms _ c.wanted-size.ensures

pub returns-then-not-ok_at : goal.returns-then-not-ok_at
returns-then-not-ok_at c =
    c.refused.ensures ∙ ap none_chosen c.number.ensures ∙ sym (chosen-bundle _ _ _ (told-no c.ok_at.ensures c.if-not-ok_at.true))

pub terms-terms-requires : goal.terms-terms-requires
terms-terms-requires c = (facts _ c.requires).range

pub wanted-size-requires : goal.wanted-size-requires
wanted-size-requires c = size-asks _ _ _ c.requires (bundle-holds (goal.at.wanted-size-requires c).Else-not-ok_at)

pub shared_ref_as_front-find_offer : goal.shared_ref_as_front-find_offer
shared_ref_as_front-find_offer c = (facts _ c.requires).few

pub find_offer-requires : goal.find_offer-requires
find_offer-requires c =
    record {
      ruled = rw c.terms-terms.ensures.window (facts _ c.requires).rules;
      small = small _ _ _ c.requires (bundle-holds (goal.at.find_offer-requires c).Else-not-ok_at) _ c.terms-terms.ensures.terms _ c.wanted-size.ensures;
    }

pub returns-in_default : goal.returns-in_default
returns-in_default c =
    let e = goal.at.returns-in_default c in
    let fits = bundle-holds e.Else-not-ok_at in
    c.refused-in_default.ensures ∙ ap none_chosen c.number-in_default.ensures ∙ sym (chosen-as _ _ _ fits (sym (found e.After-find_offer fits) ∙ c.in_default.is))

pub shared_ref_as_front-find_delays : goal.shared_ref_as_front-find_delays
shared_ref_as_front-find_delays c = (facts _ c.requires).places

pub answer-offer-requires : goal.answer-offer-requires
answer-offer-requires c =
    let e = goal.at.answer-offer-requires c in
    let fits = bundle-holds e.Else-not-ok_at in
    record {
      dated = dated _ _ _ c.requires fits c.in-Some.field-0.place c.in-Some.field-0.send (sym (found e.After-find_offer fits) ∙ c.in-Some.is);
      short = rw c.find_delays-found.ensures (short _ c.args.at c.args.bundle c.requires _ _);
    }

pub returns : goal.returns
returns c =
    let e = goal.at.returns c in
    let fits = bundle-holds e.Else-not-ok_at in
    ap (λ (o : Offer). record { offer = o; place = c.in-Some.field-0.place }) (rw c.find_delays-found.ensures at c.answer-offer.ensures)
    ∙ sym (chosen-as _ _ _ fits (sym (found e.After-find_offer fits) ∙ c.in-Some.is))
