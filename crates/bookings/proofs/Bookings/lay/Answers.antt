-- `bookings::Bookings::lay` meets its contract: the parts are listed one after the other, as far as there is room.
use Rattle.std.proofs.lemmas.Result.{err_from_is_err_and, MatchResult-weaker}
use Rattle.bookings.proofs.CutLoop.{tidy-holds, holds-both, overflows-after, overflows-more}
use Rattle.bookings.proofs.Bookings.lay.Goals as goal

pub push-requires : goal.push-requires
push-requires c = record { tidy = c.requires.tidy }

pub returns-in_err-push : goal.returns-in_err-push
returns-in_err-push c =
    let p = err_from_is_err_and c.from_residual.result c.from_residual.ensures.1 in
    rw (p.1, p.2) (overflows-more _ _ _ _ c.in_err-push.ensures)

pub push-requires-2 : goal.push-requires-2
push-requires-2 c = record { tidy = tidy-holds _ _ _ c.in_ok-push.ensures }

pub returns-in_err-push-2 : goal.returns-in_err-push-2
returns-in_err-push-2 c =
    let p = err_from_is_err_and c.from_residual-in_err-push-2.result c.from_residual-in_err-push-2.ensures.1 in
    rw (p.1, p.2) (overflows-after _ _ _ c.in_ok-push.ensures _ _ (overflows-more _ _ _ _ c.in_err-push-2.ensures))

pub push-requires-3 : goal.push-requires-3
push-requires-3 c = record { tidy = tidy-holds _ _ _ c.in_ok-push-2.ensures }

pub returns : goal.returns
returns c =
    MatchResult-weaker c.push-3.result c.push-3.ensures
    (λ _ h. holds-both _ _ _ c.in_ok-push.ensures _ _ (holds-both _ _ _ c.in_ok-push-2.ensures _ _ h))
    (λ e h. overflows-after _ _ _ c.in_ok-push.ensures _ _ (overflows-after _ _ _ c.in_ok-push-2.ensures _ _ h))
