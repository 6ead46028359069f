-- `howrekano::priority::hk_priority_book_kept` meets its contract: refused as the flag and the dry run's answer tell, else the list that is lent is set.
use Prim.Native.Nat.{ℕ, ◌+◌}
use mathlib.Core.Path.{◌≡◌, refl, sym, ap, ◌∙◌}
use Rattle.units.specs.declared.TxData.{TxData}
use Rattle.units.specs.declared.Offer.{Offer}
use Rattle.units.specs.Granted.{refusal_of}
use Rattle.contact.specs.Record.{strict_of}
use Rattle.bookings.specs.declared.Set.{Set}
use Rattle.bookings.specs.Cut.{set_bookings}
use Rattle.bookings.proofs.Covered.{cover-follows}
use Rattle.pseg.specs.declared.PrioritySeg.{PrioritySeg}
use Rattle.pseg.specs.declared.Booked.{Booked}
use Rattle.pseg.specs.Book.{book_of}
use Rattle.pseg.proofs.Facts.{facts}
use Rattle.pseg.proofs.ByDryRun.{by-set, dry-refused, set-booked}
use Rattle.howrekano.specs.Words.{priority_seg_in}
use Rattle.howrekano.proofs.Refusals.{refused-some}
use Rattle.howrekano.proofs.priority.hk_priority_book_kept.Goals as goal
use Rattle.howrekano.proofs.priority.hk_priority_book_kept.Goals.{In_default}

-- the refusal by the dry run
by-dry-run : (r : PrioritySeg) (d : TxData) {n : ℕ} {x y : Offer} → n ≡ refusal_of (strict_of r.contact) x d → x ≡ y → n ≡ refusal_of (strict_of r.contact) y d
by-dry-run r d e h = e ∙ ap (λ (z : Offer). refusal_of (strict_of r.contact) z d) h

pub returns-in-Err : goal.returns-in-Err
returns-in-Err c =
    let a = c.args in
    let lent = priority_seg_in a.choices.now a.window a.rates.now a.rate_count a.delays.now a.delay_count a.bookings.now a.count.now in
    let is = by-dry-run lent a.dates.now c.in-Err.ensures c.hk_priority_dry_run_kept-offer.ensures in
    rw (dry-refused _ _ _ _ c.requires (λ z. refused-some _ (is ∙ z))) (record { number = c.number.ensures ∙ is; manager = refl })

pub set-requires : goal.set-requires
set-requires c =
    let q = facts _ c.requires in
    record { few = q.few; follows = cover-follows _ _ _ q.cover; unused = q.unused }

-- what is set is what is booked
booked : (c : In_default) (x : Set) →
    let a = c.args in
    let lent = priority_seg_in a.choices.now a.window a.rates.now a.rate_count a.delays.now a.delay_count a.bookings.now a.count.now in
    x ≡ set_bookings lent.bookings a.dates.now.send.start.0 a.dates.now.send.end.0 (a.bundle.priority.0 + 1) → by-set lent x ≡ book_of lent a.at a.bundle a.dates.now
booked c x e =
    let a = c.args in
    let lent = priority_seg_in a.choices.now a.window a.rates.now a.rate_count a.delays.now a.delay_count a.bookings.now a.count.now in
    set-booked lent a.at a.bundle a.dates.now c.requires (sym (by-dry-run lent a.dates.now c.in_default.ensures c.hk_priority_dry_run_kept-offer.ensures)) x e

pub returns-in-Ok : goal.returns-in-Ok
returns-in-Ok c =
    let is = booked (goal.at.returns-in-Ok c).In_default _ (rw c.from-level.ensures at c.in-Ok.ensures) in
    record { number = ap (λ (x : Booked). x.number) is; manager = ap (λ (x : Booked). x.manager) is }

pub returns-in-Err-set : goal.returns-in-Err-set
returns-in-Err-set c =
    let is = booked (goal.at.returns-in-Err-set c).In_default _ (rw c.from-level.ensures at c.in-Err-set.ensures) in
    record { number = c.number-in-Err-set.ensures ∙ ap (λ (x : Booked). x.number) is; manager = ap (λ (x : Booked). x.manager) is }
