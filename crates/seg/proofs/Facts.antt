-- What a record that passes its test is, and what an offer made on it is.
use Prim.Native.Nat.{ℕ, ◌+◌, ◌-◌, ◌<◌, ◌≤◌}
use mathlib.Core.Bool.{Bool, true, false}
use mathlib.Core.Path.{◌≡◌, refl, sym, ap, ◌∙◌}
use native.Mathlib.Nat.{le_refl}
use native.Mathlib.Omega.{arith}
use lib.Dec.{leb, eqb}
use lib.ListN.{drop}
use borrow.Author.Tests.{le-leb, eqb-true, eq-eqb}
use Rattle.units.specs.Limits.{date_max, listed_max}
use Rattle.units.specs.declared.Interval.{Interval}
use Rattle.units.specs.declared.Volume.{Volume}
use Rattle.units.specs.Logic.{both, all_of}
use Rattle.units.proofs.Logic.{both-fst, both-snd, both_yes}
use Rattle.units.proofs.Counted.{counted-some, counted-most, counted-holds}
use Rattle.segmentation.specs.Capacity.{top_of}
use Rattle.contact.specs.Segments.{no_volume}
use Rattle.contact.specs.Record.{contact_ok, rates_of, edition_of, end_rule, delay_list, answer_in}
use Rattle.contact.specs.Boundary.{Received}
use Rattle.contact.proofs.Lookup.{Answers, contact-answers, contact-received}
use Rattle.contact.proofs.Sound.{Sound, sound}
use Rattle.free_list.specs.Offer.{fit_at}
use Rattle.free_list.specs.declared.Cut.{Cut}
use Rattle.free_list.specs.Granted.{Inside, Changes}
use Rattle.free_list.specs.Listed.{list_ok}
use Rattle.free_list.specs.Cut.{listed}
use Rattle.free_list.specs.Room.{room_of}
use Rattle.free_list.proofs.ListedLaws.{Listed, listed-true}
use Rattle.free_list.proofs.Offered.{Offered, exact-laws, offer-at}
use Rattle.free_list.proofs.CutLaws.{offered-inside, offered-ends}
use Rattle.free_list.proofs.CutList.{Kept, offered-inside-list}
use Rattle.seg.specs.declared.FreeVolume.{FreeVolume}
use Rattle.seg.specs.Record.{free_ok, record_ok, with_left, with_free}
use Rattle.seg.specs.DryRun.{found_of}

pub record Facts (r : FreeVolume) : Type 0 where
  pub test : contact_ok r.contact ≡ true
  pub contact : Sound r.contact
  pub some : 1 ≤ r.free.count
  pub few : r.free.count ≤ listed_max
  pub rules : list_ok (rates_of r.contact) r.contact.window.start.0 r.contact.window.end.0 (listed r.free) ≡ true
  pub free : Listed (rates_of r.contact) r.contact.window.start.0 r.contact.window.end.0 (listed r.free)
  pub unused : all_of no_volume (drop r.free.count r.free.segments) ≡ true
  pub room : r.room.0 ≡ room_of (listed r.free)

pub facts : (r : FreeVolume) → record_ok r ≡ true → Facts r
unfolding record_ok free_ok
facts r e =
    let test = both-fst _ _ e in
    let held = both-snd _ _ e in
    let list = both-fst _ _ held in
    let holds = counted-holds listed_max r.free.count _ list in
    record {
      test = test;
      contact = sound r.contact test;
      some = counted-some listed_max r.free.count _ list;
      few = counted-most listed_max r.free.count _ list;
      rules = both-fst _ _ holds;
      free = listed-true _ _ _ _ (both-fst _ _ holds);
      unused = both-snd _ _ holds;
      room = eqb-true _ _ (both-snd _ _ held);
    }

-- the room is tested with the list
same_tests : (a b l u e : Bool) → both (both a (both b (both l u))) e ≡ both (both a b) (both (both l e) u)
unfolding both
same_tests false b l u e = refl
same_tests true false l u e = refl
same_tests true true false u e = refl
same_tests true true true true true = refl
same_tests true true true true false = refl
same_tests true true true false true = refl
same_tests true true true false false = refl

-- the record's test, in the order of the code
pub record_is : (r : FreeVolume) → record_ok r ≡ both (contact_ok r.contact)
    (both (both (leb 1 r.free.count) (leb r.free.count listed_max))
    (both (both (list_ok (rates_of r.contact) r.contact.window.start.0 r.contact.window.end.0 (listed r.free)) (eqb r.room.0 (room_of (listed r.free))))
    (all_of no_volume (drop r.free.count r.free.segments))))
unfolding record_ok free_ok
record_is r = ap (both (contact_ok r.contact)) (same_tests _ _ _ _ _)

-- a contact and a free list that keep their rules, with the list's room, are a record that does
pub record-kept : (r : FreeVolume) → contact_ok r.contact ≡ true
    → Kept (rates_of r.contact) r.contact.window.start.0 r.contact.window.end.0 r.free
    → r.room.0 ≡ room_of (listed r.free) → record_ok r ≡ true
unfolding record_ok free_ok
record-kept r e k h =
    both_yes _ _ e
    (both_yes _ _
    (both_yes _ _ (le-leb _ _ k.some) (both_yes _ _ (le-leb _ _ k.few) (both_yes _ _ k.rules k.unused)))
    (eq-eqb _ _ h))

-- a record with what a cut left has the room of its list
pub left_is : (r : FreeVolume) (x : Cut) (n : Volume) → Changes r.room.0 x → n.0 ≡ r.room.0 - x.off.0 + x.on.0 → with_left r x.list n ≡ with_free r x.list
left_is r x n q e = ap (λ (k : ℕ). with_left r x.list (record { 0 = k })) (e ∙ q.is)

-- a record with its own list is the one that came
pub own-list : (r : FreeVolume) → Facts r → with_free r r.free ≡ r
own-list r q = ap (λ (n : ℕ). with_left r r.free (record { 0 = n })) (sym q.room)

module _ (r : FreeVolume) (q : Facts r) (t v : ℕ) (pos : 0 < v) (i : ℕ) (send : Interval) (h : found_of r t v ≡ fit_at i send) where
  -- the offer stands at a listed segment, with the laws of the end rule
  pub found-offered : Offered (edition_of r.contact) (rates_of r.contact) (top_of (rates_of r.contact)) (listed r.free) i send.start.0 send.end.0 v
  found-offered =
      offer-at (edition_of r.contact) (end_rule r.contact) (rates_of r.contact) r.contact.window.start.0 r.contact.window.end.0 (top_of (rates_of r.contact)) t v send
      (exact-laws (edition_of r.contact) (rates_of r.contact) r.contact.window.start.0) pos (listed r.free) r.contact.window.start.0 i q.free (le_refl _) h

  -- its dates are in the window
  pub found_inside : (r.contact.window.start.0 ≤ send.start.0) × (send.start.0 ≤ send.end.0) × (send.end.0 ≤ r.contact.window.end.0)
  found_inside =
      let l = rates_of r.contact in
      let in_window = offered-inside (edition_of r.contact) l (top_of l) r.contact.window.end.0 send.start.0 send.end.0 v (listed r.free) _ i q.free found-offered in
      (in_window.0, (offered-ends (edition_of r.contact) l (top_of l) send.start.0 send.end.0 v (listed r.free) i found-offered).1.forth, in_window.1)

  -- so it is answered with 0 and its own dates
  pub found-answers : Answers send (answer_in r.contact send)
  found-answers = contact-answers r.contact q.contact send found_inside.0 found_inside.1 found_inside.2

  -- and by rule 2 received as 02's words say
  pub found-received : r.contact.choices.rule.0 ≡ 2 → Received r.contact.window.end.0 (delay_list r.contact) (answer_in r.contact send)
  found-received two = contact-received r.contact q.contact two send found_inside.0 found_inside.1 found_inside.2

  found-dates : (send.start.0 ≤ date_max) × (send.end.0 ≤ date_max)
  found-dates =
      let date : r.contact.window.end.0 ≤ date_max = q.contact.date in
      (omega (arith, found_inside.1, found_inside.2), omega (arith, found_inside.2))

  -- what the answer's call asks
  pub answer-asks : (contact_ok r.contact ≡ true) × ((send.start.0 ≤ date_max) × (send.end.0 ≤ date_max))
  answer-asks = (q.test, found-dates)

  -- what the cut's call asks
  pub cut-asks : Inside r.free i v
  cut-asks = offered-inside-list _ _ _ _ _ _ _ _ q.few q.unused found-offered
