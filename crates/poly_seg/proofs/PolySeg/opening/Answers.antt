-- `poly_seg::PolySeg::opening` meets its contract, refusal by refusal.
use mathlib.Core.Path.{sym, ◌∙◌}
use Rattle.std.proofs.lemmas.Option.{MatchOption-at_some, MatchOption-at_none}
use Rattle.std.proofs.lemmas.Result.{err_from_is_err_and}
use Rattle.units.proofs.Logic.{unless-go, unless-stop}
use Rattle.poly_seg.specs.Granted.{number_by}
use Rattle.poly_seg.proofs.Told.{told_as}
use Rattle.poly_seg.proofs.PolySeg.opening.Goals as goal

pub returns-then-not-ok-clause-number : goal.returns-then-not-ok-clause-number
unfolding number_by
returns-then-not-ok-clause-number c = sym (unless-stop _ _ _ (sym c.ok.ensures ∙ c.if-not-ok.true))

pub returns-then-not-is_window-clause-number : goal.returns-then-not-is_window-clause-number
unfolding number_by
returns-then-not-is_window-clause-number c =
    sym (unless-go _ _ _ (sym c.ok.ensures ∙ c.if-not-ok.false) ∙ unless-stop _ _ _ (sym c.is_window.ensures ∙ c.if-not-is_window.true))

pub returns-in_err-used-clause-number : goal.returns-in_err-used-clause-number
unfolding number_by
returns-in_err-used-clause-number c =
    let p = err_from_is_err_and c.from_residual.result c.from_residual.ensures.1 in
    let h = c.in_err-used.ensures in
    told_as _ _ _ _ c.delays_by.result p.1 p.2 h.value h.ok_part
    ∙ sym (unless-go _ _ _ (sym c.ok.ensures ∙ c.if-not-ok.false) ∙ unless-go _ _ _ (sym c.is_window.ensures ∙ c.if-not-is_window.false)
    ∙ unless-stop _ _ _ (MatchOption-at_none _ _ h.ok_part c.delays_by.ensures))

pub returns-then-not-ok-2-clause-number : goal.returns-then-not-ok-2-clause-number
unfolding number_by
returns-then-not-ok-2-clause-number c =
    sym (unless-go _ _ _ (sym c.ok.ensures ∙ c.if-not-ok.false) ∙ unless-go _ _ _ (sym c.is_window.ensures ∙ c.if-not-is_window.false)
    ∙ unless-go _ _ _ (MatchOption-at_some _ _ _ c.in_ok-used.ensures.ok_part c.delays_by.ensures).0
    ∙ unless-stop _ _ _ (sym c.ok-2.ensures ∙ c.if-not-ok-2.true))

pub returns-clause-number : goal.returns-clause-number
unfolding number_by
returns-clause-number c =
    sym (unless-go _ _ _ (sym c.ok.ensures ∙ c.if-not-ok.false) ∙ unless-go _ _ _ (sym c.is_window.ensures ∙ c.if-not-is_window.false)
    ∙ unless-go _ _ _ (MatchOption-at_some _ _ _ c.in_ok-used.ensures.ok_part c.delays_by.ensures).0
    ∙ unless-go _ _ _ (sym c.ok-2.ensures ∙ c.if-not-ok-2.false))
