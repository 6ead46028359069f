-- `pseg::PrioritySeg::found` meets its contract, refusal by refusal.
use mathlib.Core.Bool.{true}
use mathlib.Core.Path.{◌≡◌, ap, ◌∙◌}
use native.Mathlib.Nat.{le_refl}
use Rattle.std.specs.ControlFlow.{break_value}
use Rattle.units.specs.Limits.{bundle_ok}
use Rattle.units.proofs.Choice.{told-yes, told-no}
use Rattle.units.proofs.Loads.{asked-load, load}
use Rattle.bookings.proofs.CoverLaws.{cover-from}
use Rattle.pseg.proofs.Facts.{facts}
use Rattle.pseg.proofs.Calls.{dry-bundle, found-is}
use Rattle.pseg.proofs.PrioritySeg.found.Goals as goal
use Rattle.pseg.proofs.PrioritySeg.found.Goals.{Else-not-ok_at}

-- the test that holds
bundle-holds : (c : Else-not-ok_at) → let a = c.args in bundle_ok a.at a.bundle ≡ true
bundle-holds c = told-yes c.ok_at.ensures c.if-not-ok_at.false

pub returns-then-not-ok_at : goal.returns-then-not-ok_at
returns-then-not-ok_at c = dry-bundle _ _ _ c.requires.kept (told-no c.ok_at.ensures c.if-not-ok_at.true)

pub rates-requires : goal.rates-requires
rates-requires c = (facts _ c.requires.kept).contact.rates.1

pub invariant_of-search : goal.invariant_of-search
invariant_of-search c =
    record { sized = (load _ (asked-load _ _ (bundle-holds (goal.at.invariant_of-search c).Else-not-ok_at))).some }

pub listed-requires : goal.listed-requires
listed-requires c = (facts _ c.requires.kept).few

pub find_run-requires : goal.find_run-requires
find_run-requires c =
    let q = facts _ c.requires.kept in
    record {
      covered = rw c.rates.ensures (record { from = _; below = le_refl _; run = q.contact.run });
      inside = rw c.listed.ensures (cover-from _ _ _ q.cover);
    }

pub returns : goal.returns
returns c =
    found-is _ _ _ c.requires.kept (bundle-holds (goal.at.returns c).Else-not-ok_at) _ (c.break_value.ensures.value ∙ ap break_value (rw (c.rates.ensures, c.listed.ensures) at c.find_run.ensures)) _ c.ok_or.ensures.value
