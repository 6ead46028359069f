-- `howrekano::free::hk_free_book_kept` meets its contract: what is chosen and the flag tell the refusal, and where to cut the list that is lent.
use borrow.Author.Rules.{rules}
use Prim.Native.Nat.{ℕ}
use mathlib.Core.Path.{◌≡◌, refl, sym, ap, ◌∙◌}
use native.Mathlib.Omega.{arith}
use lib.ListN.{length, length-take}
use Rattle.units.specs.Limits.{listed_max}
use Rattle.units.specs.declared.TxData.{TxData}
use Rattle.units.specs.Granted.{refusal_of}
use Rattle.contact.specs.Record.{strict_of}
use Rattle.free_list.specs.declared.Chosen.{Chosen}
use Rattle.seg.specs.declared.FreeVolume.{FreeVolume}
use Rattle.seg.specs.Granted.{chosen_of}
use Rattle.seg.proofs.Facts.{facts}
use Rattle.seg.proofs.Calls.{chosen-refused, chosen-done}
use Rattle.howrekano.specs.Words.{free_volume_in}
use Rattle.howrekano.proofs.Refusals.{refused-some}
use Rattle.howrekano.proofs.FreeBooking.{change-asks, left-done, left-full}
use Rattle.howrekano.proofs.free.hk_free_book_kept.Goals as goal
use Rattle.howrekano.proofs.free.hk_free_book_kept.Goals.{Start, In_default}

abbrev lent : (c : Start) → FreeVolume
lent c = let a = c.args in free_volume_in a.choices.now a.window a.rates.now a.rate_count a.delays.now a.delay_count a.free.now a.count.now

size : (c : Start) → length c.args.free.now ≡ listed_max
size c = search rules

-- the refusal by what is chosen
by-chosen : (r : FreeVolume) (d : TxData) {n : ℕ} {x y : Chosen} → n ≡ refusal_of (strict_of r.contact) x.offer d → x ≡ y → n ≡ refusal_of (strict_of r.contact) y.offer d
by-chosen r d e h = e ∙ ap (λ (z : Chosen). refusal_of (strict_of r.contact) z.offer d) h

pub returns-in-Err : goal.returns-in-Err
returns-in-Err c =
    let at = goal.at.returns-in-Err c in
    let is = by-chosen (lent at.Start) c.args.dates.now c.in-Err.ensures c.chosen-found.ensures in
    rw (chosen-refused _ _ _ c.requires.kept _ (λ z. refused-some _ (is ∙ z))) (record { number = c.number.ensures ∙ is; manager = refl; room = c.requires.room })

pub shared_ref_as_front-cut : goal.shared_ref_as_front-cut
shared_ref_as_front-cut c = (facts _ c.requires.kept).contact.rates.1

-- the booking is not refused
granted : (c : In_default) →
    let a = c.args in
    let r = free_volume_in a.choices.now a.window a.rates.now a.rate_count a.delays.now a.delay_count a.free.now a.count.now in
    refusal_of (strict_of r.contact) (chosen_of r a.at a.bundle).offer a.dates.now ≡ 0
granted c =
    let a = c.args in
    let r = free_volume_in a.choices.now a.window a.rates.now a.rate_count a.delays.now a.delay_count a.free.now a.count.now in
    sym (by-chosen r a.dates.now c.in_default.ensures c.chosen-found.ensures)

pub cut-requires : goal.cut-requires
cut-requires c =
    let q = facts _ c.requires.kept in
    record {
      few = simp length-take (omega (arith, q.contact.rates.1));
      in_turn = record { from = _; run = q.contact.run };
      inside = rw c.chosen-found.ensures (chosen-done _ _ _ c.requires.kept _ (granted (goal.at.cut-requires c).In_default)).1;
    }

pub changed-requires : goal.changed-requires
changed-requires c =
    let at = goal.at.changed-requires c in
    change-asks (lent at.Start) c.args.at c.args.bundle c.args.dates.now c.requires.kept (size at.Start) (granted at.In_default) _ c.requires.room _ c.in-Ok.change (rw c.chosen-found.ensures at c.in-Ok.ensures)

pub returns-in-Ok : goal.returns-in-Ok
returns-in-Ok c =
    let at = goal.at.returns-in-Ok c in
    let left = left-done (lent at.Start) c.args.at c.args.bundle c.args.dates.now c.requires.kept (size at.Start) (granted at.In_default) _ c.requires.room _ c.in-Ok.change (rw c.chosen-found.ensures at c.in-Ok.ensures) _ c.changed.ensures in
    record { number = left.number; manager = left.manager; room = left.room }

pub returns-in-Err-cut : goal.returns-in-Err-cut
returns-in-Err-cut c =
    let at = goal.at.returns-in-Err-cut c in
    let left = left-full (lent at.Start) c.args.at c.args.bundle c.args.dates.now c.requires.kept (size at.Start) (granted at.In_default) _ c.requires.room _ c.in-Err-cut.refusal (rw c.chosen-found.ensures at c.in-Err-cut.ensures) refl in
    record { number = c.number-in-Err-cut.ensures ∙ left.number; manager = left.manager; room = left.room }
