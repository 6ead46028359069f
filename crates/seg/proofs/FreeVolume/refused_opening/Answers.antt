-- `seg::FreeVolume::refused_opening` meets its contract: all but the number is a default, which is zero.
use Rattle.std.proofs.Common.{rules}
use Rattle.contact.proofs.Zero.{contact-zero}
use Rattle.units.specs.Refusal.{number_of}
use Rattle.seg.proofs.FreeVolume.refused_opening.Goals as goal

pub returns : goal.returns
returns c =
    let d = c.default.ensures.1 in
    let contact = contact-zero _ _ (λ x p. search rules) (λ x p. search rules) _ d.0 (number_of c.args.refusal) in
    λ i. record { number = c.number.ensures i; manager = record { contact = contact i; free = d.1.0 i; room = record { 0 = d.1.1 i } } }
