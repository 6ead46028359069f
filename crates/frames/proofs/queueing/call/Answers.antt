-- `frames::queueing::call` meets its contract: 13 enqueues what the layout gives, 14 dequeues it.
use mathlib.Core.Path.{sym, ap, ◌∙◌}
use borrow.Author.Tests.{eq-eqb, ne_eqb}
use Rattle.units.specs.declared.Bundle.{Bundle}
use Rattle.units.proofs.Choice.{pick_yes, pick_no}
use Rattle.legacy.specs.Queueing.{enqueue_of, dequeue_of}
use Rattle.frames.specs.Granted.{queueing_of}
use Rattle.frames.proofs.queueing.call.Goals as goal

pub returns-then-byte_at-eq19 : goal.returns-then-byte_at-eq19
unfolding queueing_of
returns-then-byte_at-eq19 c =
    c.enqueue_kept.ensures
    ∙ ap (λ (b : Bundle). enqueue_of c.args.r b) c.bundle_at-bundle.ensures
    ∙ sym (pick_yes _ _ _ (eq-eqb _ _ (sym c.byte_at.ensures ∙ c.if-byte_at-eq19.true)))

pub returns : goal.returns
unfolding queueing_of
returns c =
    c.dequeue_kept.ensures
    ∙ ap (λ (b : Bundle). dequeue_of c.args.r b) c.bundle_at-bundle.ensures
    ∙ sym (pick_no _ _ _ (ne_eqb _ _ (λ e. c.if-byte_at-eq19.false (c.byte_at.ensures ∙ e))))
