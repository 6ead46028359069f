-- `contact::Contact::opened` meets its contract: each test that fails gives its refusal, in order.
use Rattle.std.proofs.Common.{◌≡◌, true, sym, ◌∙◌, ap, List, take}
use Rattle.std.proofs.lemmas.Option.{MatchOption-at_some, MatchOption-at_none}
use Rattle.std.proofs.lemmas.Result.{err_from_is_err_and}
use Rattle.segmentation.specs.declared.RateSegment.{RateSegment}
use Rattle.contact.specs.Segments.{rate_span, covers, delays_ok}
use Rattle.contact.specs.Open.{total_of, volume_ok}
use Rattle.contact.specs.Granted.{total_within}
use Rattle.contact.proofs.Rates.{rates-forward, rates-fitting}
use Rattle.contact.proofs.Refusals.{Passed, no-choice, no-window, no-rates, no-volume, no-delays, within-over, within_of, refused_as, done-of}
use Rattle.contact.proofs.Contact.opened.Goals as goal
use Rattle.contact.proofs.Contact.opened.Goals.{In_ok-rates, In_ok-total, In_ok-delays}

-- the rates pass, and are the first of the array
rates-hold : (c : In_ok-rates) → (covers rate_span c.args.window c.args.rate_count c.args.rates.now ≡ true) × (c.in_ok-rates.rates.now ≡ take c.args.rate_count c.args.rates.now)
rates-hold c = MatchOption-at_some _ _ _ c.in_ok-rates.ensures.ok_part c.covering.ensures

-- and all that is tested before the delays
module _ (c : In_ok-total) where
  abbrev used : List RateSegment
  used = take c.args.rate_count c.args.rates.now

  rates-pass : (covers rate_span c.args.window c.args.rate_count c.args.rates.now ≡ true) × (c.in_ok-rates.rates.now ≡ used)
  rates-pass = MatchOption-at_some _ _ _ c.in_ok-rates.ensures.ok_part c.covering.ensures

  total-holds : (volume_ok used ≡ true) × (record { 0 = total_of used } ≡ c.in_ok-total.total)
  total-holds = within_of _ _ (ap total_within (sym rates-pass.1) ∙ sym c.total_of.ensures ∙ c.in_ok-total.ensures.ok_part)

module _ (c : In_ok-delays) where
  delays-hold : (delays_ok c.args.window c.args.delay_count c.args.delays.now ≡ true) × (c.in_ok-delays.delays.now ≡ take c.args.delay_count c.args.delays.now)
  delays-hold = MatchOption-at_some _ _ _ c.in_ok-delays.ensures.ok_part c.delays_are.ensures

pub returns-then-not-ok : goal.returns-then-not-ok
returns-then-not-ok c = sym (no-choice _ _ _ _ _ _ (sym c.ok.ensures ∙ c.if-not-ok.true))

pub returns-then-not-is_window : goal.returns-then-not-is_window
returns-then-not-is_window c =
    sym (no-window _ _ _ _ _ _ (sym c.ok.ensures ∙ c.if-not-ok.false) (sym c.is_window.ensures ∙ c.if-not-is_window.true))

pub returns-in_err-rates : goal.returns-in_err-rates
returns-in_err-rates c =
    let p = err_from_is_err_and c.from_residual.result c.from_residual.ensures.1 in
    let h = c.in_err-rates.ensures in
    refused_as _ _ _ _ c.covering.result p.1 p.2 h.value h.ok_part
    ∙ sym (no-rates _ _ _ _ _ _ (sym c.ok.ensures ∙ c.if-not-ok.false) (sym c.is_window.ensures ∙ c.if-not-is_window.false) (MatchOption-at_none _ _ h.ok_part c.covering.ensures))

pub total_of-requires : goal.total_of-requires
total_of-requires c =
    let h = rates-hold c in record { forward = rw h.1 (rates-forward _ _ _ (sym c.is_window.ensures ∙ c.if-not-is_window.false) h.0) }

pub returns-in_err-total : goal.returns-in_err-total
returns-in_err-total c =
    let p = err_from_is_err_and c.from_residual-in_err-total.result c.from_residual-in_err-total.ensures.1 in
    let h = c.in_err-total.ensures in
    let r = rates-hold (goal.at.returns-in_err-total c).In_ok-rates in
    refused_as _ _ _ _ c.total_of.result p.1 p.2 h.value h.ok_part
    ∙ sym (no-volume _ _ _ _ _ _ (sym c.ok.ensures ∙ c.if-not-ok.false) (sym c.is_window.ensures ∙ c.if-not-is_window.false) r.0 (within-over _ (ap total_within (sym r.1) ∙ sym c.total_of.ensures ∙ h.ok_part)))

pub returns-in_err-delays : goal.returns-in_err-delays
returns-in_err-delays c =
    let p = err_from_is_err_and c.from_residual-in_err-delays.result c.from_residual-in_err-delays.ensures.1 in
    let h = c.in_err-delays.ensures in
    let t = (goal.at.returns-in_err-delays c).In_ok-total in
    refused_as _ _ _ _ c.delays_are.result p.1 p.2 h.value h.ok_part
    ∙ sym (no-delays _ _ _ _ _ _ (sym c.ok.ensures ∙ c.if-not-ok.false) (sym c.is_window.ensures ∙ c.if-not-is_window.false) (rates-pass t).0 (total-holds t).0 (MatchOption-at_none _ _ h.ok_part c.delays_are.ensures))

pub volumes_of-requires-clause-fitting : goal.volumes_of-requires-clause-fitting
volumes_of-requires-clause-fitting c =
    let t = (goal.at.volumes_of-requires-clause-fitting c).In_ok-total in
    let r = rates-pass t in
    rw r.1 (rates-fitting _ _ _ (sym c.is_window.ensures ∙ c.if-not-is_window.false) r.0 (total-holds t).0)

pub returns : goal.returns
returns c =
    let t = (goal.at.returns c).In_ok-total in
    let r = rates-pass t in
    let v = total-holds t in
    let d = delays-hold (goal.at.returns c).In_ok-delays in
    let p : Passed c.args.choices c.args.window c.args.rates.now c.args.rate_count c.args.delays.now c.args.delay_count = record {
      choice = sym c.ok.ensures ∙ c.if-not-ok.false;
      window = sym c.is_window.ensures ∙ c.if-not-is_window.false;
      rate = r.0;
      volume = v.0;
      delay = d.0;
    } in
    done-of _ _ _ _ _ _ p _ v.1 _ (rw r.1 at c.volumes_of.ensures) _ (rw d.1 at c.delays_of.ensures)
