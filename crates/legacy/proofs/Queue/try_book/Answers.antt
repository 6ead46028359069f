-- `legacy::Queue::try_book` meets its contract: refused as the flag and the dry run's answer tell, else the bundle is queued under self-update.
use mathlib.Core.Path.{◌≡◌, sym, ap, ◌∙◌}
use Rattle.std.proofs.lemmas.Result.{err_from_is_err_and}
use Rattle.units.specs.declared.Offer.{Offer}
use Rattle.units.specs.Granted.{refusal_of}
use Rattle.units.proofs.Choice.{pick_yes, pick_no}
use Rattle.legacy.specs.Record.{strict_of}
use Rattle.legacy.specs.DryRun.{dry_run_of}
use Rattle.legacy.proofs.Offers.{dry-done, dry-small}
use Rattle.legacy.proofs.Found.{book-stop}
use Rattle.legacy.proofs.Queue.try_book.Goals as goal
use Rattle.legacy.proofs.Queue.try_book.Goals.{In_ok-check}

pub returns-in_err-check : goal.returns-in_err-check
returns-in_err-check c =
    let p = err_from_is_err_and c.from_residual.result c.from_residual.ensures.1 in
    let a = c.args in
    rw (p.1, p.2)
    (sym (book-stop _ _ _ _ c.requires _ (c.in_err-check.ensures ∙ ap (λ (o : Offer). refusal_of (strict_of a.self.now) o a.dates) (c.offer.ensures ∙ c.answer.ensures))))

-- the dry run's answer is booked
passed : (c : In_ok-check) → let a = c.args in refusal_of (strict_of a.self.now) (dry_run_of a.self.now a.at a.bundle) a.dates ≡ 0
passed c =
    let a = c.args in
    sym (c.in_ok-check.ensures ∙ ap (λ (o : Offer). refusal_of (strict_of a.self.now) o a.dates) (c.offer.ensures ∙ c.answer.ensures))

pub put-requires-clause-small : goal.put-requires-clause-small
put-requires-clause-small c = dry-small _ _ _ _ c.requires (passed (goal.at.put-requires-clause-small c).In_ok-check)

pub returns-then-self : goal.returns-then-self
returns-then-self c =
    c.put.ensures ∙ sym (dry-done _ _ _ _ c.requires (passed (goal.at.returns-then-self c).In_ok-check) ∙ pick_yes _ _ _ c.if-self.true)

pub returns : goal.returns
returns c = sym (dry-done _ _ _ _ c.requires (passed (goal.at.returns c).In_ok-check) ∙ pick_no _ _ _ c.if-self.false)
