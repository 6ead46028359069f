-- The delay lookups of a contact that keeps its rules, by either rule: short, and found for every date of the window, so that 8 is never the answer.
use Prim.Native.Nat.{ℕ, ◌<◌, ◌≤◌}
use mathlib.Core.Bool.{true}
use mathlib.Core.Path.{◌≡◌, ap}
use mathlib.Core.List.{List, [], ◌∷◌}
use native.Mathlib.Omega.{arith}
use borrow.Author.Tests.{leb-true}
use Rattle.units.specs.declared.Interval.{Interval}
use Rattle.units.specs.declared.Offer.{Offer}
use Rattle.units.specs.Answer.{offered}
use Rattle.units.specs.Logic.{all_of}
use Rattle.units.proofs.Logic.{all_head, all_tail}
use Rattle.segmentation.specs.declared.DelaySegment.{DelaySegment}
use Rattle.segmentation.specs.declared.Delays.{Delays}
use Rattle.std.specs.Prelude.{Option}
use Rattle.segmentation.specs.Delay.{delays_of, answer_of, answer_with}
use Rattle.segmentation.specs.Granted.{AllShort}
use Rattle.segmentation.proofs.DelayLaws.{Finds, delays-find}
use Rattle.contact.specs.declared.Contact.{Contact}
use Rattle.contact.specs.Segments.{delay_span, spans, delay_ok}
use Rattle.contact.specs.Record.{delay_list, delays_at, answer_in}
use Rattle.contact.specs.Boundary.{Received}
use Rattle.contact.proofs.Boundary.{covers-reach, received}
use Rattle.contact.proofs.Sound.{Sound}

pub all_short : (l : List DelaySegment) → all_of delay_ok l ≡ true → AllShort l
unfolding AllShort
all_short [] e = tt
all_short (d ∷ l) e = (leb-true _ _ (all_head delay_ok d l e), all_short l (all_tail delay_ok d l e))

-- by either rule both lookups find a segment where the delays cover the window: 8 is never the answer
pub window-finds : (rule : ℕ) (w : Interval) (l : List DelaySegment) → spans delay_span w.start.0 w.end.0 l ≡ true → w.start.0 < w.end.0
    → (s e : ℕ) → w.start.0 ≤ s → s ≤ e → e ≤ w.end.0 → Finds (delays_of rule l s e)
window-finds rule w l c some s e low h high =
    delays-find rule l s e h (covers-reach rule _ s l _ c some low (omega arith)) (covers-reach rule _ e l _ c some (omega arith) high)

-- the answer that a send interval has where both lookups find a segment: 0 with its dates
pub record Answers (send : Interval) (o : Offer) : Type 0 where
  pub number : o.number ≡ 0
  pub sends : o.dates.send ≡ send

pub finds-answer : (find : ℕ → ℕ → Option Delays) (send : Interval) → Finds (find send.start.0 send.end.0) → Answers send (answer_with find send)
finds-answer find send f =
    let e : answer_with find send ≡ offered send.start.0 send.end.0 f.first.0 f.last.0 = ap (answer_of send.start.0 send.end.0) f.is in
    record { number = ap (λ (o : Offer). o.number) e; sends = ap (λ (o : Offer). o.dates.send) e }

module _ (c : Contact) (q : Sound c) where
  pub contact-finds : (s e : ℕ) → c.window.start.0 ≤ s → s ≤ e → e ≤ c.window.end.0 → Finds (delays_at c s e)
  contact-finds s e = window-finds _ c.window (delay_list c) q.covered q.some s e

  pub contact-answers : (send : Interval) → c.window.start.0 ≤ send.start.0 → send.start.0 ≤ send.end.0 → send.end.0 ≤ c.window.end.0
      → Answers send (answer_in c send)
  contact-answers send low h high = finds-answer (delays_at c) send (contact-finds _ _ low h high)

  -- by rule 2 it is received as 02's words say
  pub contact-received : c.choices.rule.0 ≡ 2 → (send : Interval) → c.window.start.0 ≤ send.start.0 → send.start.0 ≤ send.end.0 → send.end.0 ≤ c.window.end.0
      → Received c.window.end.0 (delay_list c) (answer_in c send)
  contact-received two send low h high = received c.choices.rule.0 two c.window (delay_list c) q.covered q.some send low h high
