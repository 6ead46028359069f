-- What a record that passes its test is, and what a run found on it is.
use Prim.Native.Nat.{ℕ, ◌<◌, ◌≤◌}
use mathlib.Core.Bool.{true}
use mathlib.Core.Path.{◌≡◌, refl, ap, ◌∙◌}
use mathlib.Core.List.{List, [], ◌∷◌}
use native.Mathlib.Omega.{arith}
use lib.ListN.{length, drop}
use borrow.Author.Tests.{le-leb, eqb-true}
use Rattle.units.specs.Limits.{date_max, listed_max}
use Rattle.units.specs.declared.Interval.{Interval}
use Rattle.units.specs.declared.Bundle.{Bundle}
use Rattle.units.specs.Logic.{both, all_of}
use Rattle.units.proofs.Logic.{both-fst, both-snd, both_yes}
use Rattle.units.proofs.Counted.{counted-some, counted-most, counted-holds}
use Rattle.units.proofs.Arrays.{unused-padded}
use Rattle.segmentation.specs.Capacity.{top_of}
use Rattle.segmentation.proofs.EndLaws.{Ends, end-ends}
use Rattle.contact.specs.declared.Contact.{Contact}
use Rattle.contact.specs.Record.{contact_ok, rates_of, edition_of, delay_list, answer_in}
use Rattle.contact.specs.Boundary.{Received}
use Rattle.contact.proofs.Lookup.{Answers, contact-answers, contact-received}
use Rattle.contact.proofs.Sound.{Sound, sound}
use Rattle.bookings.specs.declared.BookingSegment.{BookingSegment}
use Rattle.std.specs.declared.ops.ControlFlow.TheVariants.{Break}
use Rattle.bookings.specs.Listed.{cover_ok, level_at, no_booking, listed}
use Rattle.bookings.specs.Search.{rule_of}
use Rattle.bookings.specs.Cut.{segment, list_in}
use Rattle.bookings.proofs.CutLoop.{listed_in}
use Rattle.bookings.proofs.RunLaws.{Free, run-found}
use Rattle.pseg.specs.declared.PrioritySeg.{PrioritySeg}
use Rattle.pseg.specs.Record.{bookings_ok, record_ok}
use Rattle.pseg.specs.DryRun.{run_of}

-- the listed segments cover the contact's window
abbrev pub Covered : Contact → List BookingSegment → Type 0
Covered c f = cover_ok c.window.start.0 c.window.end.0 f ≡ true

pub record Facts (r : PrioritySeg) : Type 0 where
  pub test : contact_ok r.contact ≡ true
  pub contact : Sound r.contact
  pub some : 1 ≤ r.bookings.count
  pub few : r.bookings.count ≤ listed_max
  pub cover : Covered r.contact (listed r.bookings)
  pub unused : all_of no_booking (drop r.bookings.count r.bookings.segments) ≡ true

pub facts : (r : PrioritySeg) → record_ok r ≡ true → Facts r
unfolding record_ok bookings_ok
facts r e =
    let test = both-fst _ _ e in
    let list = both-snd _ _ e in
    let holds = counted-holds listed_max r.bookings.count _ list in
    record {
      test = test;
      contact = sound r.contact test;
      some = counted-some listed_max r.bookings.count _ list;
      few = counted-most listed_max r.bookings.count _ list;
      cover = both-fst _ _ holds;
      unused = both-snd _ _ holds;
    }

zero-unused : no_booking (segment 0 0 0) ≡ true
unfolding no_booking both
zero-unused = refl

-- a contact that keeps its rules, with 1 to 64 bookings that cover its window, is a record that does
pub record-kept : (c : Contact) (f : List BookingSegment) → contact_ok c ≡ true → 1 ≤ length f → length f ≤ listed_max → Covered c f
    → record_ok (record { contact = c; bookings = list_in f }) ≡ true
unfolding record_ok bookings_ok
record-kept c f e some few cover =
    both_yes _ _ e
    (both_yes _ _ (le-leb _ _ some)
    (both_yes _ _ (le-leb _ _ few)
    (both_yes _ _ (ap (cover_ok c.window.start.0 c.window.end.0) (listed_in f) ∙ cover)
    (unused-padded listed_max (segment 0 0 0) no_booking f (length f) refl zero-unused))))

-- no list of nothing covers a window
pub cover-some : (a b : ℕ) (f : List BookingSegment) → a < b → cover_ok a b f ≡ true → 1 ≤ length f
unfolding cover_ok
cover-some a b [] h e = absurd (omega (arith, eqb-true a b e))
cover-some a b (g ∷ f) h e = omega arith

module _ (r : PrioritySeg) (q : Facts r) (t : ℕ) (b : Bundle) (send : Interval) (h : run_of r t b ≡ Break send) where
  -- no tick of the run has a level above the priority
  pub found-free : Free (rule_of (edition_of r.contact) (rates_of r.contact) b.size.0 r.contact.window.end.0) (level_at (listed r.bookings))
      r.contact.window.start.0 t b.priority.0 send.end.0 send
  found-free = run-found (rule_of (edition_of r.contact) (rates_of r.contact) b.size.0 r.contact.window.end.0) t b.priority.0 _ _ (listed r.bookings) send q.cover h

  module _ (pos : 0 < b.size.0) where
    -- its end is the end rule's, by the window's end
    pub found-ends : Ends (edition_of r.contact) (rates_of r.contact) (top_of (rates_of r.contact)) send.start.0 b.size.0 r.contact.window.end.0 send.end.0
    found-ends = end-ends (rates_of r.contact) send.start.0 b.size.0 pos (edition_of r.contact) r.contact.window.end.0 send.end found-free.ends

    -- so it is answered with 0 and its own dates
    pub found-answers : Answers send (answer_in r.contact send)
    found-answers = contact-answers r.contact q.contact send found-free.low found-ends.forth found-ends.by

    -- and by rule 2 received as 02's words say
    pub found-received : r.contact.choices.rule.0 ≡ 2 → Received r.contact.window.end.0 (delay_list r.contact) (answer_in r.contact send)
    found-received two = contact-received r.contact q.contact two send found-free.low found-ends.forth found-ends.by

    -- its dates are in the window
    found-dates : (send.start.0 ≤ date_max) × (send.end.0 ≤ date_max)
    found-dates =
        let forth = found-ends.forth in
        let by = found-ends.by in
        let date = q.contact.date in
        (omega (arith, forth, by, date), omega (arith, by, date))

    -- what the answer's call asks
    pub answer-asks : (contact_ok r.contact ≡ true) × ((send.start.0 ≤ date_max) × (send.end.0 ≤ date_max))
    answer-asks = (q.test, found-dates)
