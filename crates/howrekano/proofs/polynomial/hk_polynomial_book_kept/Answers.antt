-- `howrekano::polynomial::hk_polynomial_book_kept` meets its contract: what is chosen and the flag tell the refusal, and where to cut the list that is lent.
use mathlib.Core.Path.{◌≡◌, refl, sym, ap, ◌∙◌}
use Prim.Native.Nat.{ℕ}
use native.Mathlib.Omega.{arith}
use Rattle.units.specs.declared.TxData.{TxData}
use Rattle.units.specs.Granted.{refusal_of}
use Rattle.segmentation.specs.Granted.{Run}
use Rattle.free_list.specs.declared.Chosen.{Chosen}
use Rattle.free_list.specs.declared.Cut.{Cut}
use Rattle.poly_seg.specs.declared.PolySeg.{PolySeg}
use Rattle.poly_seg.specs.declared.Booked.{Booked}
use Rattle.poly_seg.specs.Record.{strict_of}
use Rattle.poly_seg.specs.Book.{book_of, cut_free}
use Rattle.poly_seg.specs.Granted.{chosen_of}
use Rattle.poly_seg.proofs.Calls.{chosen-refused, chosen-done}
use Rattle.howrekano.specs.Words.{polynome_in, poly_seg_in}
use Rattle.howrekano.proofs.Refusals.{refused-some}
use Rattle.howrekano.proofs.PolynomialBooking.{by-cut, cut-booked}
use Rattle.howrekano.proofs.polynomial.hk_polynomial_book_kept.Goals as goal
use Rattle.howrekano.proofs.polynomial.hk_polynomial_book_kept.Goals.{In_default}

-- the refusal by what is chosen
by-chosen : (r : PolySeg) (d : TxData) {n : ℕ} {x y : Chosen} → n ≡ refusal_of (strict_of r) x.offer d → x ≡ y → n ≡ refusal_of (strict_of r) y.offer d
by-chosen r d e h = e ∙ ap (λ (z : Chosen). refusal_of (strict_of r) z.offer d) h

pub returns-in-Err : goal.returns-in-Err
returns-in-Err c =
    let a = c.args in
    let lent = poly_seg_in a.choices.now a.window (polynome_in a.coefficients.now a.offset) a.delays.now a.delay_count a.free.now a.count.now in
    let is = by-chosen lent a.dates.now c.in-Err.ensures c.chosen-found.ensures in
    rw (chosen-refused _ _ _ c.requires _ (λ z. refused-some _ (is ∙ z))) (record { number = c.number.ensures ∙ is; manager = refl })

-- the booking is not refused
granted : (c : In_default) →
    let a = c.args in
    let r = poly_seg_in a.choices.now a.window (polynome_in a.coefficients.now a.offset) a.delays.now a.delay_count a.free.now a.count.now in
    refusal_of (strict_of r) (chosen_of r a.at a.bundle).offer a.dates.now ≡ 0
granted c =
    let a = c.args in
    let r = poly_seg_in a.choices.now a.window (polynome_in a.coefficients.now a.offset) a.delays.now a.delay_count a.free.now a.count.now in
    sym (by-chosen r a.dates.now c.in_default.ensures c.chosen-found.ensures)

pub cut-requires : goal.cut-requires
unfolding Run
cut-requires c =
    record {
      few = omega arith;
      in_turn = record { from = 0; run = tt };
      inside = rw c.chosen-found.ensures (chosen-done _ _ _ c.requires _ (granted (goal.at.cut-requires c).In_default)).1;
    }

-- what is cut is what is booked
booked : (c : In_default) (x : Cut) →
    let a = c.args in
    let r = poly_seg_in a.choices.now a.window (polynome_in a.coefficients.now a.offset) a.delays.now a.delay_count a.free.now a.count.now in
    x ≡ cut_free r (chosen_of r a.at a.bundle).place a.dates.now.send → by-cut r x ≡ book_of r a.at a.bundle a.dates.now
booked c x e = cut-booked _ _ _ _ c.requires (granted c) x e

pub returns-in-Ok : goal.returns-in-Ok
returns-in-Ok c =
    let is = booked (goal.at.returns-in-Ok c).In_default _ (rw c.chosen-found.ensures at c.in-Ok.ensures) in
    record { number = ap (λ (x : Booked). x.number) is; manager = ap (λ (x : Booked). x.manager) is }

pub returns-in-Err-cut : goal.returns-in-Err-cut
returns-in-Err-cut c =
    let is = booked (goal.at.returns-in-Err-cut c).In_default _ (rw c.chosen-found.ensures at c.in-Err-cut.ensures) in
    record { number = c.number-in-Err-cut.ensures ∙ ap (λ (x : Booked). x.number) is; manager = ap (λ (x : Booked). x.manager) is }
