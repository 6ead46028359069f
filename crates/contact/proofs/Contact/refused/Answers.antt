-- `contact::Contact::refused` meets its contract: all but the number is a default, which is zero.
use Rattle.std.proofs.Common.{rules}
use Rattle.contact.proofs.Zero.{contact-zero}
use Rattle.contact.proofs.Contact.refused.Goals as goal

pub returns : goal.returns
returns c =
    let d = c.default.ensures in
    let contact = contact-zero _ _ (λ x p. search rules) (λ x p. search rules) _ d.1.1 c.args.number in
    λ i. record { number = c.args.number; total = record { 0 = d.1.0 i }; contact = contact i }
