-- `pseg::PrioritySeg::refused_opening` meets its contract: the record is a default, which is zero.
use Rattle.std.proofs.Common.{rules}
use Rattle.contact.proofs.Zero.{contact-zero}
use Rattle.pseg.proofs.PrioritySeg.refused_opening.Goals as goal

pub returns : goal.returns
returns c =
    let d = c.default.ensures in
    let contact = contact-zero _ _ (λ x p. search rules) (λ x p. search rules) _ d.0 0 in
    λ i. record { number = c.number.ensures i; manager = record { contact = contact i; bookings = d.1 i } }
