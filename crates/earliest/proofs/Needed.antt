-- Why 02 leaves out records with an empty segment: calls on a fresh contact reach two records on which the answer is not the earliest place.
-- Contact [0,2), rate 2, delay 0, edition 1. All else that R-8 asks holds of them.
use Prim.Native.Nat.{ℕ, zero, suc, ◌<◌}
use mathlib.Core.Bool.{true}
use mathlib.Core.Path.{◌≡◌, refl, ap}
use mathlib.Core.List.{List, [], ◌∷◌}
use native.Mathlib.Omega.{arith}
use lib.Dec.{ltb→lt}
use lib.IntN.{pos, negsuc}
use lib.Signed.{◌<ℤ◌, lt_z_yes}
use Rattle.units.specs.declared.Date.{Date}
use Rattle.units.specs.declared.Bundle.{Bundle}
use Rattle.units.specs.declared.Offer.{Offer}
use Rattle.units.specs.Limits.{segments_max, one_or_two, window_ok, load_ok, bundle_ok}
use Rattle.units.specs.Logic.{both, all_of}
use Rattle.units.specs.Answer.{interval, refused, offered, same_dates, offers}
use Rattle.units.specs.Strict.{strict_ok, forbids}
use Rattle.units.specs.Arrays.{padded}
use Rattle.segmentation.specs.declared.RateSegment.{RateSegment}
use Rattle.segmentation.specs.declared.DelaySegment.{DelaySegment}
use Rattle.std.specs.Prelude.{Some}
use Rattle.segmentation.specs.Capacity.{rate_at, cap_of}
use Rattle.segmentation.specs.End.{reach_of as tick_of, close_of, end_of}
use Rattle.segmentation.specs.Delay.{belongs, from_date, delays_of}
use Rattle.contact.specs.Choices.{ported, choices_ok}
use Rattle.contact.specs.Segments.{zero_delay, spans, covers, delays_ok, no_volume, no_delay}
use Rattle.contact.specs.Open.{total_of, volume_ok, contact_of, open_contact}
use Rattle.contact.specs.Record.{contact_ok}
use Rattle.bookings.specs.declared.BookingSegment.{BookingSegment}
use Rattle.bookings.specs.Listed.{follows, cover_ok, level_at, no_booking}
use Rattle.bookings.specs.Search.{reach_of, begin_of, broken_of, free_of, turn_of, search_of}
use Rattle.bookings.specs.Cut.{segment, parts_of, set_of, set_bookings}
use Rattle.pseg.specs.declared.PrioritySeg.{PrioritySeg}
use Rattle.pseg.specs.Record.{bookings_ok, record_ok}
use Rattle.bookings.specs.Cut.{list_in}
use Rattle.pseg.specs.Open.{open_of}
use Rattle.pseg.specs.DryRun.{dry_run_of}
use Rattle.pseg.specs.Book.{book_of}
use Rattle.earliest.specs.Earliest.{end_from, value_at, StartIn, Earliest}

abbrev date : ℕ → Date
date t = record { 0 = t }

abbrev bundle : ℕ → ℕ → Bundle
bundle v p = record { size = record { 0 = v }; priority = record { 0 = p } }

abbrev rates : List RateSegment
rates = padded segments_max (record { start = date 0; end = date 0; rate = record { 0 = 0 } }) (record { start = date 0; end = date 2; rate = record { 0 = 2 } } ∷ [])

abbrev delays : List DelaySegment
delays = padded segments_max zero_delay (record { start = date 0; end = date 2; delay = record { 0 = 0 } } ∷ [])

-- the contact's record with this list; a segment's level is one above its value
abbrev listing : List BookingSegment → PrioritySeg
listing f = record { contact = contact_of ported (interval 0 2) rates 1 delays 1; bookings = list_in f }

-- the record after a booking asked at t, of size v and priority p, sent from s to e
abbrev booked : PrioritySeg → ℕ → ℕ → ℕ → ℕ → ℕ → PrioritySeg
booked r t v p s e = (book_of r (date t) (bundle v p) (record { send = interval s e; recv = interval s e })).manager

-- [0,1) -1, [1,1) 0, [1,2) -1
abbrev hiding : PrioritySeg
hiding = listing (segment 0 1 0 ∷ segment 1 1 1 ∷ segment 1 2 0 ∷ [])

-- [0,1) 1, [1,1) 0, [1,2) -1
abbrev half : PrioritySeg
half = listing (segment 0 1 2 ∷ segment 1 1 1 ∷ segment 1 2 0 ∷ [])

-- [0,1) 1, [1,1) 0, [1,2) 1
abbrev offering : PrioritySeg
offering = listing (segment 0 1 2 ∷ segment 1 1 1 ∷ segment 1 2 2 ∷ [])

-- opened fresh; size 1 at 1, priority 0, sends 1,1; then size 2 at 0 and size 2 at 1, priority 1, send 0,1 and 1,2
abbrev Reached : Type 0
Reached =
    ((open_of ported (interval 0 2) rates 1 delays 1).manager ≡ listing (segment 0 2 0 ∷ []))
    × (booked (listing (segment 0 2 0 ∷ [])) 1 1 0 1 1 ≡ hiding)
    × (booked hiding 0 2 1 0 1 ≡ half)
    × (booked half 1 2 1 1 2 ≡ offering)

-- what the dry run answers to a bundle of size v and priority p asked for at 0
abbrev answer : PrioritySeg → ℕ → ℕ → Offer
answer r v p = dry_run_of r (date 0) (bundle v p)

-- all else that R-8 asks
abbrev Fits : PrioritySeg → ℕ → ℕ → Type 0
Fits r v p = (record_ok r ≡ true) × (bundle_ok (date 0) (bundle v p) ≡ true)

-- size 4, priority 0 is answered 7 on the first; size 1, priority 1 is offered 1,1 on the other
abbrev Answers : Type 0
Answers = (Fits hiding 4 0) × (answer hiding 4 0 ≡ refused 7) × (Fits offering 1 1) × (answer offering 1 1 ≡ offered 1 1 0 0)

-- from 0 the end is 2, and the ticks 0 and 1 have the value -1 in the first; the tick 1 has the value 1 in the other
abbrev Figures : Type 0
Figures = (end_from hiding (bundle 4 0) 0 ≡ Some (date 2)) × (value_at hiding 0 ≡ negsuc 0) × (value_at hiding 1 ≡ negsuc 0) × (value_at offering 1 ≡ pos 1)

pub computed : Reached × Answers × Figures
unfolding both all_of one_or_two strict_ok forbids window_ok load_ok bundle_ok same_dates offers padded rate_at cap_of tick_of close_of end_of belongs from_date delays_of spans covers delays_ok no_volume no_delay total_of volume_ok choices_ok open_contact contact_ok follows cover_ok level_at no_booking reach_of begin_of broken_of free_of turn_of search_of parts_of set_of set_bookings bookings_ok record_ok open_of dry_run_of book_of
computed = ((refl, refl, refl, refl), ((refl, refl), refl, (refl, refl), refl), (refl, refl, refl, refl))

answers : Answers
answers = computed.1

figures : Figures
figures = computed.2

free : (u : ℕ) → u < 2 → value_at hiding u <ℤ pos 0
free zero h = rw figures.1 (lt_z_yes tt)
free (suc zero) h = rw figures.2 (lt_z_yes tt)
free (suc (suc u)) h = absurd (omega arith)

-- 0 is a start of the first
start : StartIn hiding (date 0) (bundle 4 0) 0
start =
    record {
      asked = omega arith;
      inside = (omega arith, omega arith);
      end = date 2;
      ends = figures.0;
      by = omega arith;
      free = λ u x y. free u y;
      itself = free 0 (omega arith);
    }

-- an empty segment hides a start
pub hides : (Fits hiding 4 0) × (Earliest hiding (date 0) (bundle 4 0) (answer hiding 4 0) → ⊥)
hides = (answers.0, λ q. q.none.0 (ap (λ (o : Offer). o.number) answers.1) 0 start)

-- an empty segment is offered although its tick is booked
pub offers-booked : (Fits offering 1 1) × (Earliest offering (date 0) (bundle 1 1) (answer offering 1 1) → ⊥)
offers-booked = (
  answers.2,
  λ q.
      let is = answers.3 in
      let least = (q.offer 1).0 (ap (λ (o : Offer). o.number) is, ap (λ (o : Offer). o.dates.send.start.0) is) in
      let below : pos 1 <ℤ pos 1 = rw figures.3 at least.is.itself in
      omega (arith, ltb→lt 1 1 below.lt),
)
