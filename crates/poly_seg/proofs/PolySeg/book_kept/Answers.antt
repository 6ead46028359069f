-- `poly_seg::PolySeg::book_kept` meets its contract: what is chosen and the flag tell the refusal, and where to cut.
use Prim.Native.Nat.{ℕ}
use mathlib.Core.Path.{◌≡◌, sym, ap, ◌∙◌}
use Rattle.units.specs.declared.TxData.{TxData}
use Rattle.units.specs.Granted.{refusal_of}
use Rattle.free_list.specs.declared.Chosen.{Chosen}
use Rattle.free_list.specs.declared.Cut.{Cut}
use Rattle.poly_seg.specs.declared.PolySeg.{PolySeg}
use Rattle.poly_seg.specs.Record.{strict_of}
use Rattle.poly_seg.specs.Book.{refused_booking, with_free, cut_free}
use Rattle.poly_seg.proofs.Calls.{chosen-refused, chosen-done}
use Rattle.poly_seg.proofs.Told.{number-some}
use Rattle.poly_seg.proofs.PolySeg.book_kept.Goals as goal

-- the refusal by what is chosen
by-chosen : (r : PolySeg) (d : TxData) {n : ℕ} {x y : Chosen} → n ≡ refusal_of (strict_of r) x.offer d → x ≡ y → n ≡ refusal_of (strict_of r) y.offer d
by-chosen r d e h = e ∙ ap (λ (z : Chosen). refusal_of (strict_of r) z.offer d) h

pub returns-in-Err : goal.returns-in-Err
returns-in-Err c =
    let is = by-chosen c.args.self c.args.dates c.in-Err.ensures c.chosen-place.ensures in
    c.refused_booking.ensures
    ∙ ap (λ (n : ℕ). refused_booking n c.args.self) is
    ∙ sym (chosen-refused _ _ _ c.requires _ (λ z. number-some _ (is ∙ z)))

pub cut-done-requires : goal.cut-done-requires
cut-done-requires c =
    let is = by-chosen c.args.self c.args.dates c.in_default.ensures c.chosen-place.ensures in
    rw c.chosen-place.ensures (chosen-done _ _ _ c.requires _ (sym is)).1

pub returns : goal.returns
returns c =
    let a = c.args in
    let is = by-chosen c.args.self c.args.dates c.in_default.ensures c.chosen-place.ensures in
    ap (λ (x : Cut). record { number = x.number; manager = with_free a.self x.list })
    (c.cut-done.ensures ∙ ap (λ (x : Chosen). cut_free a.self x.place a.dates.send) c.chosen-place.ensures)
    ∙ sym (chosen-done _ _ _ c.requires _ (sym is)).0
