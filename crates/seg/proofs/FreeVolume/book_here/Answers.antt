-- `seg::FreeVolume::book_here` meets its contract: what is chosen and the flag tell the refusal, and where to cut the list, which stays where it stands.
use borrow.Author.Rules.{rules}
use mathlib.Core.Path.{◌≡◌}
use native.Mathlib.Omega.{arith}
use lib.ListN.{length, length-take}
use Rattle.std.proofs.lemmas.Result.{err_from_is_err_and}
use Rattle.units.specs.Limits.{listed_max}
use Rattle.units.specs.Granted.{refusal_of}
use Rattle.contact.specs.Record.{strict_of}
use Rattle.seg.specs.Granted.{chosen_of}
use Rattle.seg.proofs.Facts.{facts}
use Rattle.seg.proofs.Here.{check-refused, check-done, here-inside, change-asks, here-done, here-full}
use Rattle.seg.proofs.FreeVolume.book_here.Goals as goal
use Rattle.seg.proofs.FreeVolume.book_here.Goals.{In_ok-check}

-- the booking is not refused by what is chosen
granted : (c : In_ok-check) → let a = c.args in refusal_of (strict_of a.self.now.contact) (chosen_of a.self.now a.at a.bundle).offer a.dates ≡ 0
granted c = check-done _ _ _ _ c.requires _ c.found-found.ensures c.in_ok-check.ensures

pub returns-in_err-check : goal.returns-in_err-check
returns-in_err-check c =
    let p = err_from_is_err_and c.from_residual.result c.from_residual.ensures.1 in
    rw (p.1, p.2) (check-refused _ _ _ _ c.requires _ c.found-found.ensures _ c.in_err-check.ensures)

pub rates-requires : goal.rates-requires
rates-requires c = (facts _ c.requires).contact.rates.1

pub cut-requires : goal.cut-requires
cut-requires c =
    let q = facts _ c.requires in
    let h = q.contact.rates in
    rw (c.rates.ensures, c.found-found.ensures)
    (record {
      few = simp length-take (omega arith);
      in_turn = record { from = _; run = q.contact.run };
      inside = here-inside _ _ _ _ c.requires (granted (goal.at.cut-requires c).In_ok-check);
    })

pub returns-in_err-change : goal.returns-in_err-change
returns-in_err-change c =
    let p = err_from_is_err_and c.from_residual-in_err-change.result c.from_residual-in_err-change.ensures.1 in
    let none = granted (goal.at.returns-in_err-change c).In_ok-check in
    rw (p.1, p.2) (here-full _ _ _ _ c.requires none _ _ (rw (c.rates.ensures, c.found-found.ensures) at c.in_err-change.ensures))

pub changed-room-requires : goal.changed-room-requires
changed-room-requires c =
    let none = granted (goal.at.changed-room-requires c).In_ok-check in
    let size : length c.args.self.now.free.segments ≡ listed_max = search rules in
    change-asks _ _ _ _ c.requires none _ size _ (rw (c.rates.ensures, c.found-found.ensures) at c.in_ok-change.ensures)

pub returns : goal.returns
returns c =
    let none = granted (goal.at.returns c).In_ok-check in
    let size : length c.args.self.now.free.segments ≡ listed_max = search rules in
    here-done _ _ _ _ c.requires none _ size _ (rw (c.rates.ensures, c.found-found.ensures) at c.in_ok-change.ensures) _ c.changed-room.ensures
