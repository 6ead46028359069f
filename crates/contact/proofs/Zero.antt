-- A contact by default is the one that a refused opening returns.
use Rattle.std.proofs.Common.{◌≡◌, ℕ}
use Rattle.std.specs.Array.{AllOfLen}
use Rattle.units.specs.Limits.{segments_max}
use Rattle.segmentation.specs.declared.VolumeSegment.{VolumeSegment}
use Rattle.segmentation.specs.declared.DelaySegment.{DelaySegment}
use Rattle.contact.specs.declared.Contact.{Contact}
use Rattle.contact.specs.Segments.{zero_volume, zero_delay}
use Rattle.contact.specs.Open.{refused_contact}
use Rattle.contact.proofs.Told.{array-of}

-- P and Q: what a default segment is
pub contact-zero : (P : VolumeSegment → Type 0) (Q : DelaySegment → Type 0) → ((x : VolumeSegment) → P x → x ≡ zero_volume) → ((x : DelaySegment) → Q x → x ≡ zero_delay) → (c : Contact)
    → ((c.choices.edition.0 ≡ 0) × ((c.choices.rule.0 ≡ 0) × (c.choices.strict.0 ≡ 0)))
    × (((c.window.start.0 ≡ 0) × (c.window.end.0 ≡ 0))
    × (AllOfLen P c.rates segments_max × ((c.rate_count ≡ 0) × (AllOfLen Q c.delays segments_max × (c.delay_count ≡ 0)))))
    → (n : ℕ) → c ≡ (refused_contact n).contact
contact-zero P Q only-volume only-delay c h n =
    let rates = array-of P zero_volume segments_max c.rates only-volume h.1.1.0 in
    let delays = array-of Q zero_delay segments_max c.delays only-delay h.1.1.1.1.0 in
    λ i. record {
      choices = record { edition = record { 0 = h.0.0 i }; rule = record { 0 = h.0.1.0 i }; strict = record { 0 = h.0.1.1 i } };
      window = record { start = record { 0 = h.1.0.0 i }; end = record { 0 = h.1.0.1 i } };
      rates = rates i;
      rate_count = h.1.1.1.0 i;
      delays = delays i;
      delay_count = h.1.1.1.1.1 i;
    }
