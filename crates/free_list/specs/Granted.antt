-- What inner functions take for granted or compute on the way. No promise of a public call rests on it.
use Rattle.std.specs.Prelude.{ℕ, ◌+◌, ◌-◌, ◌*◌, ◌<◌, ◌≤◌, ◌^◌, min, max, Bool, true, ◌≡◌, List, ◌∷◌, ◌++◌, ltb, take, drop, get_or, Option, Some, None, Result, Ok, Err}
use Rattle.units.specs.Limits.{volume_max, segments_max, listed_max}
use Rattle.units.specs.declared.Date.{Date}
use Rattle.units.specs.declared.refusal.Refusal.{Refusal}
use Rattle.units.specs.Refusal.{number_of}
use Rattle.units.specs.Logic.{pick, unless, all_of}
use Rattle.segmentation.specs.declared.Delays.{Delays}
use Rattle.segmentation.specs.Delay.{answer_with}
use Rattle.segmentation.specs.declared.VolumeSegment.{VolumeSegment}
use Rattle.segmentation.specs.End.{close_of}
use Rattle.segmentation.specs.Granted.{Run}
use Rattle.contact.specs.Segments.{zero_volume, no_volume, rate_segment}
use Rattle.free_list.specs.declared.FreeList.{FreeList}
use Rattle.units.specs.Answer.{refused}
use Rattle.free_list.specs.declared.Cut.{Cut}
use Rattle.free_list.specs.declared.place.Change.{Change}
use Rattle.free_list.specs.declared.Chosen.{Chosen}
use Rattle.free_list.specs.declared.Fit.{Fit}
use Rattle.free_list.specs.Cut.{listed, cut_answer, list_cut}
use Rattle.free_list.specs.Listed.{list_ok}
use Rattle.free_list.specs.Room.{room_of}
use Rattle.free_list.specs.Offer.{Rule, end_from}
use Rattle.free_list.specs.declared.walk.Walk.{Walk}

-- the rate segments are the window, without a gap
pub record Window (l : List VolumeSegment) (lo hi : ℕ) : Type 0 where
  pub run : Run lo l
  pub last : close_of lo l ≡ hi

-- the rate segments run, and the list keeps its rules in some window
pub record Ruled (l f : List VolumeSegment) : Type 0 where
  pub from : ℕ
  pub to : ℕ
  pub run : Run from l
  pub rules : list_ok l from to f ≡ true

-- the place is listed and holds the size, and nothing is in an unused place
pub record Inside (r : FreeList) (place v : ℕ) : Type 0 where
  pub few : r.count ≤ listed_max
  pub at : place < r.count
  pub room : v ≤ (get_or r.segments place zero_volume).volume.0
  pub unused : all_of no_volume (drop r.count r.segments) ≡ true

-- the list with a at place i and the elements of i to n moved up by one; what stands past n stays
abbrev pub insert_of : {A : Type 0} → List A → ℕ → ℕ → A → List A
insert_of l n i a = take i l ++ (a ∷ (drop i (take n l) ++ drop (n + 1) l))

-- the room is the list's, and fits when the segment at the place is cut
pub record Roomy (edition : ℕ) (l : List VolumeSegment) (r : FreeList) (place s e v room : ℕ) : Type 0 where
  pub is : room ≡ room_of (listed r)
  pub small : room_of (listed (list_cut edition l r place s e v).list) < 2 ^ 64

-- what a cut takes off and puts in makes the room that of its list
pub record Changes (room : ℕ) (x : Cut) : Type 0 where
  pub low : x.off.0 ≤ room
  pub is : room - x.off.0 + x.on.0 ≡ room_of (listed x.list)
  pub small : room_of (listed x.list) < 2 ^ 64

abbrev pub left_in : List VolumeSegment → ℕ → ℕ → ℕ → Cut
left_in l n off on = cut_answer 0 (record { segments = l; count = n }) off on

-- a cut where the list stands: what is left there, with what was taken off and put in, or with the refusal
abbrev pub cut_in : FreeList → Result Change Refusal → Cut
cut_in f (Ok x) = cut_answer 0 f x.off.0 x.on.0
cut_in f (Err e) = cut_answer (number_of e) f 0 0

-- a dry run that finds nothing
abbrev pub none_chosen : ℕ → Chosen
none_chosen k = record { offer = refused k; place = 0 }

-- what was found, as a dry run's answer by a lookup of the delays, and its place
abbrev pub chosen_at : (ℕ → ℕ → Option Delays) → Option Fit → Chosen
chosen_at find (Some x) = record { offer = answer_with find x.send; place = x.place }
chosen_at find None = none_chosen 7

-- what a dry run finds, by its bundle's test
abbrev pub chosen_in : Bool → (ℕ → ℕ → Option Delays) → Option Fit → Chosen
chosen_in fits find f = unless fits (none_chosen 2) (chosen_at find f)

-- a segment's turn in the search (`end_in`)
abbrev pub end_in : Rule → VolumeSegment → ℕ → ℕ → Option Date
end_in E g t v = pick (ltb g.end.0 t) None (end_from E g (max g.start.0 t) v)

-- the walk's numbers fit
pub record WalkOk (w : Walk) : Type 0 where
  pub forth : w.hand.start.0 ≤ w.hand.end.0
  pub small : w.sum.0 ≤ w.place * volume_max
  pub few : w.place < segments_max
  pub listed : w.i < listed_max
  pub carries : w.hand.rate.0 * (w.hand.end.0 - w.hand.start.0) ≤ volume_max
  pub bound : w.room.0 ≤ w.i * (segments_max * volume_max)

abbrev pub start_of : VolumeSegment → Date → Walk
start_of s low =
    record { i = 0; low = low; room = record { 0 = 0 }; sum = record { 0 = 0 }; place = 0; hand = rate_segment s }

-- the capacity found with the rate segment in hand
abbrev pub found_of : Walk → VolumeSegment → ℕ
found_of w g = w.sum.0 + w.hand.rate.0 * (min g.end.0 w.hand.end.0 - max g.start.0 w.hand.start.0)

-- on to the next rate segment
abbrev pub on_of : Walk → VolumeSegment → VolumeSegment → Walk
on_of w g s =
    record {
      i = w.i;
      low = w.low;
      room = w.room;
      sum = record { 0 = found_of w g };
      place = w.place + 1;
      hand = rate_segment s;
    }

-- on to the next listed segment
abbrev pub done_of : Walk → VolumeSegment → Walk
done_of w g =
    record {
      i = w.i + 1;
      low = record { 0 = g.end.0 + 1 };
      room = record { 0 = w.room.0 + g.volume.0 };
      sum = record { 0 = 0 };
      place = w.place;
      hand = w.hand;
    }

unfoldable pub turn_of : Walk → VolumeSegment → VolumeSegment → ℕ → Option Walk
turn_of w g s hi =
    pick (ltb g.start.0 w.low.0) None
    (pick (ltb g.end.0 g.start.0) None
    (pick (ltb hi g.end.0) None
    (pick (ltb w.hand.end.0 g.end.0) (Some (on_of w g s))
    (pick (ltb (found_of w g) g.volume.0) None (Some (done_of w g))))))

unfoldable pub next_of : ℕ → ℕ → ℕ
next_of place m = pick (ltb (place + 1) m) (place + 1) place
