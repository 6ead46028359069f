-- `howrekano::priority::hk_priority_dry_run_kept` meets its contract, refusal by refusal.
use mathlib.Core.Bool.{true}
use mathlib.Core.Path.{◌≡◌, sym, ap, ◌∙◌}
use native.Mathlib.Nat.{le_refl}
use Rattle.std.specs.ControlFlow.{break_value}
use Rattle.units.specs.Limits.{bundle_ok}
use Rattle.units.specs.Answer.{refused}
use Rattle.units.proofs.Choice.{told-yes, told-no}
use Rattle.bookings.proofs.CoverLaws.{cover-from}
use Rattle.pseg.proofs.Facts.{facts}
use Rattle.pseg.proofs.Calls.{dry-bundle}
use Rattle.howrekano.proofs.PriorityDryRun.{some, short, dated, dry-none, dry-sent}
use Rattle.howrekano.proofs.priority.hk_priority_dry_run_kept.Goals as goal
use Rattle.howrekano.proofs.priority.hk_priority_dry_run_kept.Goals.{Else-not-ok_at}

-- the test that holds
bundle-holds : (c : Else-not-ok_at) → let a = c.args in bundle_ok a.at a.bundle ≡ true
bundle-holds c = told-yes c.ok_at.ensures c.if-not-ok_at.false

pub returns-then-not-ok_at : goal.returns-then-not-ok_at
returns-then-not-ok_at c =
    c.refused.ensures ∙ ap refused c.number.ensures ∙ sym (dry-bundle _ _ _ c.requires (told-no c.ok_at.ensures c.if-not-ok_at.true))

pub shared_ref_as_front-search : goal.shared_ref_as_front-search
shared_ref_as_front-search c = (facts _ c.requires).contact.rates.1

pub invariant_of-search : goal.invariant_of-search
invariant_of-search c = record { sized = some _ _ _ c.requires (bundle-holds (goal.at.invariant_of-search c).Else-not-ok_at) }

pub shared_ref_as_front-find_run : goal.shared_ref_as_front-find_run
shared_ref_as_front-find_run c = (facts _ c.requires).few

pub find_run-requires : goal.find_run-requires
find_run-requires c =
    let q = facts _ c.requires in
    record { covered = record { from = _; below = le_refl _; run = q.contact.run }; inside = cover-from _ _ _ q.cover }

pub returns-in_default : goal.returns-in_default
returns-in_default c =
    c.refused-in_default.ensures ∙ ap refused c.number-in_default.ensures
    ∙ sym (dry-none _ _ _ c.requires (bundle-holds (goal.at.returns-in_default c).Else-not-ok_at) (sym c.in_default.is ∙ c.break_value.ensures.value ∙ ap break_value c.find_run.ensures))

pub shared_ref_as_front-find_delays : goal.shared_ref_as_front-find_delays
shared_ref_as_front-find_delays c = (facts _ c.requires).contact.delays.1

pub answer-requires : goal.answer-requires
answer-requires c =
    record {
      dated = dated _ _ _ c.requires (bundle-holds (goal.at.answer-requires c).Else-not-ok_at) _ (sym c.in-Some.is ∙ c.break_value.ensures.value ∙ ap break_value c.find_run.ensures);
      short = rw c.find_delays-found.ensures (short _ c.args.at c.args.bundle c.requires _ _);
    }

pub returns : goal.returns
returns c =
    rw c.find_delays-found.ensures at c.answer.ensures
    ∙ sym (dry-sent _ _ _ c.requires (bundle-holds (goal.at.returns c).Else-not-ok_at) _ (sym c.in-Some.is ∙ c.break_value.ensures.value ∙ ap break_value c.find_run.ensures))
