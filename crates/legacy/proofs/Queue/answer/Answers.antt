-- `legacy::Queue::answer` meets its contract: the bundle's limits, the queue within the budget, then the end within the window.
use Prim.Native.Nat.{◌+◌, ◌/◌, ◌≤◌}
use mathlib.Core.Bool.{true}
use mathlib.Core.Path.{◌≡◌, refl, sym, ◌∙◌}
use native.Mathlib.Nat.{div-le_self}
use native.Mathlib.Omega.{arith}
use Rattle.units.specs.Limits.{bundle_ok}
use Rattle.units.proofs.Logic.{unless-go, unless-stop}
use Rattle.units.proofs.Choice.{told-yes, told-no}
use Rattle.units.proofs.Loads.{asked, asked-load, load}
use Rattle.units.proofs.Compare.{lt-yes, lt-not}
use Rattle.legacy.specs.DryRun.{dry_run_of}
use Rattle.legacy.proofs.Facts.{sound}
use Rattle.legacy.proofs.Offers.{queued, begun, dry-run-is, answer-over, answer-late, answer-dates}
use Rattle.legacy.proofs.Queue.answer.Goals as goal
use Rattle.legacy.proofs.Queue.answer.Goals.{Else-not-ok_at, Else-lt}

pub returns-then-not-ok_at : goal.returns-then-not-ok_at
unfolding dry_run_of
returns-then-not-ok_at c = sym (unless-go _ _ _ c.requires ∙ unless-stop _ _ _ (told-no c.ok_at.ensures c.if-not-ok_at.true))

fair : (c : Else-not-ok_at) → let a = c.args in bundle_ok a.at a.bundle ≡ true
fair c = told-yes c.ok_at.ensures c.if-not-ok_at.false

pub overflow_add-queue : goal.overflow_add-queue
overflow_add-queue c =
    let l = load _ (asked-load _ _ (fair (goal.at.overflow_add-queue c).Else-not-ok_at)) in
    omega (arith, queued _ _ _ c.requires c.queue-queue.ensures)

pub returns-then-budget-queue : goal.returns-then-budget-queue
returns-then-budget-queue c =
    sym (dry-run-is _ _ _ c.requires (fair (goal.at.returns-then-budget-queue c).Else-not-ok_at) ∙ answer-over _ _ _ _ _ c.queue-queue.ensures c.budget.ensures c.if-budget-queue.true)

pub start-start-requires : goal.start-start-requires
start-start-requires c =
    record { kept = c.requires; low = (asked _ _ (fair (goal.at.start-start-requires c).Else-not-ok_at), queued _ _ _ c.requires c.queue-queue.ensures) }

pub nonzero_div-end : goal.nonzero_div-end
nonzero_div-end c = let s = sound _ c.requires in omega arith

pub overflow_add-end : goal.overflow_add-end
overflow_add-end c =
    let fits = fair (goal.at.overflow_add-end c).Else-not-ok_at in
    let l = load _ (asked-load _ _ fits) in
    omega (arith, begun _ _ _ _ _ c.requires (asked _ _ fits) c.queue-queue.ensures c.start-start.ensures, div-le_self c.args.bundle.size.0 c.args.self.now.rate.0)

pub returns-then-lt : goal.returns-then-lt
returns-then-lt c =
    sym (dry-run-is _ _ _ c.requires (fair (goal.at.returns-then-lt c).Else-not-ok_at) ∙ answer-late _ _ _ _ _ c.queue-queue.ensures c.budget.ensures c.if-budget-queue.false _ c.start-start.ensures (lt-yes _ _ _ c.lt.ensures c.if-lt.true))

within : (c : Else-lt) → c.start-start.result.0 + c.args.bundle.size.0 / c.args.self.now.rate.0 ≤ c.args.self.now.window.end.0
within c = lt-not _ _ _ c.lt.ensures c.if-lt.false

pub after-requires : goal.after-requires
after-requires c =
    let s = sound _ c.requires in
    (omega (arith, within (goal.at.after-requires c).Else-lt), s.delay)

pub after-requires-2 : goal.after-requires-2
after-requires-2 c =
    let s = sound _ c.requires in
    (omega (arith, within (goal.at.after-requires-2 c).Else-lt), s.delay)

pub returns : goal.returns
returns c =
    sym (dry-run-is _ _ _ c.requires (fair (goal.at.returns c).Else-not-ok_at) ∙ answer-dates _ _ _ _ _ c.queue-queue.ensures c.budget.ensures c.if-budget-queue.false _ c.start-start.ensures _ _ _ refl (within (goal.at.returns c).Else-lt) c.after.ensures c.after-2.ensures)
