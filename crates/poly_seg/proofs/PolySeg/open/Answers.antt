-- `poly_seg::PolySeg::open` meets its contract: refused with the opening's number, or put together of its parts.
use Rattle.std.proofs.Common.{rules}
use mathlib.Core.Path.{◌≡◌, sym, ap, ◌∙◌}
use lib.IntN.{pos}
use Rattle.units.specs.Limits.{segments_max}
use Rattle.contact.specs.Segments.{zero_delay}
use Rattle.contact.proofs.Told.{array-of}
use Rattle.poly_seg.specs.declared.PolySeg.{PolySeg}
use Rattle.poly_seg.specs.Open.{refused_opening}
use Rattle.poly_seg.proofs.Opening.{open-number, open-passed, open-refused, open-parts}
use Rattle.poly_seg.proofs.Told.{number-some}
use Rattle.poly_seg.proofs.PolySeg.open.Goals as goal
use Rattle.poly_seg.proofs.PolySeg.open.Goals.{After-default}

-- the default record is all zero
blank : (c : After-default) → c.default.result.manager ≡ (refused_opening 0).manager
blank c =
    let h = c.default.ensures.1 in
    let coefficients = array-of _ (pos 0) 4 _ (λ x p. search rules) h.1.1.0.0 in
    let delays = array-of _ zero_delay segments_max _ (λ x p. search rules) h.1.1.1.0 in
    λ i. record {
      choices = record { mode = record { 0 = h.0.0 i }; rule = record { 0 = h.0.1.0 i }; strict = record { 0 = h.0.1.1 i } };
      window = record { start = record { 0 = h.1.0.0 i }; end = record { 0 = h.1.0.1 i } };
      polynome = record { coefficients = coefficients i; offset = record { 0 = h.1.1.0.1 i } };
      delays = delays i;
      delay_count = h.1.1.1.1.0 i;
      free = h.1.1.1.1.1 i;
    }

pub returns-in-Ok : goal.returns-in-Ok
returns-in-Ok c =
    let passed = open-passed _ _ _ _ _ (open-number _ _ _ _ _ ∙ sym c.in-Ok.ensures.number) in
    open-parts _ _ _ _ _ passed _ (rw c.in-Ok.ensures.used at c.delays_of.ensures) _ c.whole.ensures

pub returns-in-Err : goal.returns-in-Err
returns-in-Err c =
    let is = c.number.ensures ∙ c.in-Err.ensures.number ∙ sym (open-number _ _ _ _ _) in
    ap (λ (r : PolySeg). record { number = c.number.result; manager = r }) (blank (goal.at.returns-in-Err c).After-default)
    ∙ sym (open-refused _ _ _ _ _ _ (sym is) (λ z. number-some _ (sym c.number.ensures ∙ z)))
