-- `frames::show` meets its contract: each kind's arm writes what the table says of that kind.
use native.Mathlib.Omega.{arith}
use mathlib.Core.Path.{refl, ap}
use Rattle.answer.specs.Lines.{offer_line}
use Rattle.frames.specs.Step.{on, show_of}
use Rattle.frames.proofs.Table.{show-as, show-none}
use Rattle.frames.proofs.Told.{stored-as}
use Rattle.frames.proofs.show.Goals as goal

pub returns-in-16 : goal.returns-in-16
unfolding show_of on
returns-in-16 c =
    let a = c.args in
    stored-as _ (show-as a.line.now a.held c.byte_at-kind.ensures c.in-16.is (ap offer_line c.offer.ensures))
    c.put_offer.ensures

pub returns-in-18 : goal.returns-in-18
unfolding show_of on
returns-in-18 c =
    let a = c.args in
    stored-as _ (show-as a.line.now a.held c.byte_at-kind.ensures c.in-18.is refl) c.list.ensures

pub returns-in-21 : goal.returns-in-21
unfolding show_of on
returns-in-21 c =
    let a = c.args in
    stored-as _ (show-as a.line.now a.held c.byte_at-kind.ensures c.in-21.is refl) c.room.ensures

pub returns-in_default : goal.returns-in_default
returns-in_default c = stored-as _ (show-none _ _ c.byte_at-kind.ensures (λ e. omega arith) (λ e. omega arith) (λ e. omega arith)) c.put_number.ensures
