-- 02, R-7: openings that differ in the flag alone give contacts that do, and such contacts keep their rules alike.
use Prim.Native.Nat.{ℕ}
use mathlib.Core.Bool.{Bool, true, false}
use mathlib.Core.Path.{◌≡◌, refl, sym, ap, ◌∙◌}
use mathlib.Core.List.{List, map}
use lib.Dec.{eqb}
use lib.ListN.{take, drop}
use borrow.Author.Tests.{eq-eqb}
use Rattle.units.specs.Logic.{both, unless, pick, all_of}
use Rattle.units.specs.Limits.{window_ok}
use Rattle.units.specs.Strict.{strict_ok}
use Rattle.units.specs.declared.Interval.{Interval}
use Rattle.units.proofs.Logic.{unless-go, unless-stop, unless-turned, pick-keeps}
use Rattle.units.proofs.Choice.{pick_yes, pick_no}
use Rattle.segmentation.specs.declared.RateSegment.{RateSegment}
use Rattle.segmentation.specs.declared.DelaySegment.{DelaySegment}
use Rattle.contact.specs.declared.Choices.{Choices}
use Rattle.contact.specs.declared.Contact.{Contact}
use Rattle.contact.specs.declared.Opened.{Opened}
use Rattle.contact.specs.Choices.{choices_ok, flagging}
use Rattle.contact.specs.Segments.{rate_span, covers, delays_ok, rate_segment, whole_of, no_volume, no_delay}
use Rattle.contact.specs.Open.{volume_ok, open_contact}
use Rattle.contact.specs.Record.{flagged, contact_ok}

choices-twin : (h : Choices) → choices_ok (flagging 1 h) ≡ choices_ok (flagging 0 h)
unfolding choices_ok strict_ok
choices-twin h = refl

-- the answer with its contact's flag on, if it is accepted
abbrev flagged_opening : Opened → Opened
flagged_opening o = record { number = o.number; total = o.total; contact = flagged 1 o.contact }

abbrev pub turned : Opened → Opened
turned o = pick (eqb o.number 0) (flagged_opening o) o

module _ (h : Choices) (w : Interval) (rates : List RateSegment) (m : ℕ) (delays : List DelaySegment) (k : ℕ) where
  pub open-twin : open_contact (flagging 1 h) w rates m delays k ≡ turned (open_contact (flagging 0 h) w rates m delays k)
  unfolding open_contact
  open-twin =
      rw (choices-twin h)
      (unless-turned turned (choices_ok (flagging 0 h)) refl
      (unless-turned turned (window_ok w) refl
      (unless-turned turned (covers rate_span w m rates) refl
      (unless-turned turned (volume_ok (take m rates)) refl
      (unless-turned turned (delays_ok w k delays) refl refl)))))

-- over any manager that makes its record of a contact, with refusals by the contact's number: its opening is turned likewise
module _ {A : Type 0} (number : A → ℕ) (refuse : ℕ → A) (made : Opened → A) (turn : A → A) (by_number : (n : ℕ) → number (refuse n) ≡ n) (zero : (o : Opened) → number (made o) ≡ 0)
    (turns : (o : Opened) → made (flagged_opening o) ≡ turn (made o)) where
  abbrev pub managed : Opened → A
  managed o = unless (eqb o.number 0) (refuse o.number) (made o)

  managed-by : (o : Opened) (c : Bool) → eqb o.number 0 ≡ c → managed (turned o) ≡ pick (eqb (number (managed o)) 0) (turn (managed o)) (managed o)
  managed-by o true e =
      let is : managed o ≡ made o = unless-go _ _ _ e in
      ap managed (pick_yes _ _ _ e) ∙ unless-go _ _ _ e ∙ turns o ∙ sym (ap (λ (a : A). pick (eqb (number a) 0) (turn a) a) is ∙ pick_yes _ _ _ (eq-eqb _ _ (zero o)))
  managed-by o false e =
      let is : managed o ≡ refuse o.number = unless-stop _ _ _ e in
      ap managed (pick_no _ _ _ e) ∙ sym (pick_no _ _ _ (ap (λ (a : A). eqb (number a) 0) is ∙ ap (λ (n : ℕ). eqb n 0) (by_number o.number) ∙ e))

  pub managed-twin : (o : Opened) → managed (turned o) ≡ pick (eqb (number (managed o)) 0) (turn (managed o)) (managed o)
  managed-twin o = managed-by o (eqb o.number 0) refl

pub contact-twin : (c : Contact) → contact_ok (flagged 1 c) ≡ contact_ok (flagged 0 c)
unfolding contact_ok
contact-twin c =
    let same = open_contact (flagging 0 c.choices) c.window (map rate_segment c.rates) c.rate_count c.delays c.delay_count in
    ap (λ (n : ℕ). both (eqb n 0)
    (both (all_of whole_of (take c.rate_count c.rates))
    (both (all_of no_volume (drop c.rate_count c.rates))
    (all_of no_delay (drop c.delay_count c.delays)))))
    (ap (λ (o : Opened). o.number) (open-twin c.choices c.window (map rate_segment c.rates) c.rate_count c.delays c.delay_count) ∙ pick-keeps (λ (o : Opened). o.number ≡ same.number) (eqb same.number 0) _ _ (λ _. refl) (λ _. refl))
