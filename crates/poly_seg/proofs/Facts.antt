-- What a record that passes its test is, and what an offer made on it is.
use Prim.Native.Nat.{ℕ, zero, suc, ◌<◌, ◌≤◌}
use mathlib.Core.Bool.{Bool, true, false}
use mathlib.Core.Path.{◌≡◌, refl}
use mathlib.Core.List.{List, [], ◌∷◌}
use native.Mathlib.Omega.{arith}
use lib.Dec.{leb, eqb}
use lib.ListN.{length, drop, get_or}
use borrow.Author.Tests.{le-leb, eqb-true, eq-eqb, ne_eqb}
use Rattle.units.specs.declared.Interval.{Interval}
use Rattle.units.specs.Logic.{both, all_of}
use Rattle.units.specs.Limits.{date_max, segments_max, listed_max}
use Rattle.units.proofs.Logic.{both_go, both-stop, both-fst, both-snd, both_yes}
use Rattle.units.proofs.Counted.{counted-some, counted-most, counted-holds}
use Rattle.units.proofs.Windows.{Window, window}
use Rattle.segmentation.specs.declared.VolumeSegment.{VolumeSegment}
use Rattle.segmentation.specs.Granted.{AllShort}
use Rattle.contact.specs.Segments.{delay_span, spans, no_volume, no_delay}
use Rattle.contact.specs.Boundary.{Received}
use Rattle.contact.proofs.Boundary.{received}
use Rattle.contact.proofs.Lookup.{Answers, window-finds, finds-answer}
use Rattle.free_list.specs.Offer.{fit_at}
use Rattle.free_list.specs.declared.FreeList.{FreeList}
use Rattle.free_list.specs.Granted.{Inside}
use Rattle.free_list.specs.Listed.{list_ok}
use Rattle.free_list.specs.Cut.{listed}
use Rattle.free_list.proofs.ListedLaws.{Listed, listed-true}
use Rattle.free_list.proofs.Offered.{AtPlace, place-get, listed_at, Here, Offered}
use Rattle.free_list.proofs.CutLaws.{offered-inside}
use Rattle.free_list.proofs.CutList.{Kept, offered-inside-list}
use Rattle.poly.specs.Granted.{terms_of, Ranged}
use Rattle.poly.proofs.Range.{ranged}
use Rattle.poly.proofs.EndLaws.{find-end-inside}
use Rattle.poly.proofs.Modes.{wanted-some}
use Rattle.poly_seg.specs.declared.PolySeg.{PolySeg}
use Rattle.poly_seg.specs.Open.{open_of}
use Rattle.poly_seg.specs.Granted.{figures_ok, free_ok}
use Rattle.poly_seg.specs.Record.{rule_of, delay_list, delays_at, answer_in, record_ok}
use Rattle.poly_seg.specs.DryRun.{capacity_of, size_of, found_of}
use Rattle.poly_seg.proofs.Lookup.{delays-most, delays-short, delays-cover}
use Rattle.poly_seg.proofs.NoRates.{bare-here}
use Rattle.poly_seg.proofs.Picked.{Picked, offer-picked}
use Rattle.poly_seg.proofs.Opening.{Passed, open-passed, open-zero}

together : (a b c : Bool) → both a (both b c) ≡ both (both a b) c
unfolding both
together true b c = refl
together false b c = refl

-- The record's test, test by test.
module _ (r : PolySeg) where
  abbrev pub Opens : Type 0
  Opens = Passed r.choices r.window r.polynome r.delays r.delay_count

  abbrev pub number_of : ℕ
  number_of = (open_of r.choices r.window r.polynome r.delays r.delay_count).number

  -- in its two parts
  pub record-is : record_ok r ≡ both (figures_ok r) (free_ok r.window r.free)
  unfolding record_ok figures_ok free_ok
  record-is = together (eqb number_of 0) _ _

  module _ (h : figures_ok r ≡ true) where
    pub figures-open : number_of ≡ 0
    unfolding figures_ok
    figures-open = eqb-true _ _ (both-fst _ _ h)

    pub figures-passed : Opens
    figures-passed = open-passed _ _ _ _ _ figures-open

-- the count, then the list
pub free-counted : (w : Interval) (f : FreeList)
    → free_ok w f ≡ both (both (leb 1 f.count) (leb f.count listed_max)) (both (list_ok [] w.start.0 w.end.0 (listed f)) (all_of no_volume (drop f.count f.segments)))
unfolding free_ok
free-counted w f = together (leb 1 f.count) _ _

-- the parts of the figures' test
module _ (r : PolySeg) where
  pub figures-refused : ((open_of r.choices r.window r.polynome r.delays r.delay_count).number ≡ 0 → ⊥) → figures_ok r ≡ false
  unfolding figures_ok
  figures-refused some = both-stop _ _ (ne_eqb _ _ some)

  pub figures-rest : (open_of r.choices r.window r.polynome r.delays r.delay_count).number ≡ 0 → figures_ok r ≡ all_of no_delay (drop r.delay_count r.delays)
  unfolding figures_ok
  figures-rest h = both_go _ _ (eq-eqb _ _ h)

pub record Facts (r : PolySeg) : Type 0 where
  pub test : Opens r
  pub window : Window r.window
  pub range : Ranged (terms_of r.choices.mode.0 r.polynome) r.window
  pub places : r.delay_count ≤ segments_max
  pub short : AllShort (delay_list r)
  pub covered : rule_of r ≡ 2 → spans delay_span r.window.start.0 r.window.end.0 (delay_list r) ≡ true
  pub undelayed : all_of no_delay (drop r.delay_count r.delays) ≡ true
  pub some : 1 ≤ r.free.count
  pub few : r.free.count ≤ listed_max
  pub rules : list_ok [] r.window.start.0 r.window.end.0 (listed r.free) ≡ true
  pub free : Listed [] r.window.start.0 r.window.end.0 (listed r.free)
  pub unused : all_of no_volume (drop r.free.count r.free.segments) ≡ true

pub facts : (r : PolySeg) → record_ok r ≡ true → Facts r
unfolding record_ok
facts r e =
    let test = open-passed _ _ _ _ _ (eqb-true _ _ (both-fst _ _ e)) in
    let rest = both-snd _ _ e in
    let list = both-snd _ _ rest in
    let holds = counted-holds listed_max r.free.count _ list in
    record {
      test = test;
      window = window _ test.window;
      range = ranged _ _ _ test.window test.polynome;
      places = delays-most _ _ _ _ test.delay;
      short = delays-short _ _ _ _ test.delay;
      covered = delays-cover _ _ _ _ test.delay;
      undelayed = both-fst _ _ rest;
      some = counted-some listed_max r.free.count _ list;
      few = counted-most listed_max r.free.count _ list;
      rules = both-fst _ _ holds;
      free = listed-true _ _ _ _ (both-fst _ _ holds);
      unused = both-snd _ _ holds;
    }

-- figures that an opening takes, with nothing in an unused place, and a free list that keeps its rules are a record that does
pub record-kept : (r : PolySeg) → Opens r → all_of no_delay (drop r.delay_count r.delays) ≡ true
    → Kept [] r.window.start.0 r.window.end.0 r.free → record_ok r ≡ true
unfolding record_ok
record-kept r h u k =
    both_yes _ _ (eq-eqb _ _ (open-zero _ _ _ _ _ h))
    (both_yes _ _ u
    (both_yes _ _ (le-leb _ _ k.some) (both_yes _ _ (le-leb _ _ k.few) (both_yes _ _ k.rules k.unused))))

-- each listed segment is in the window
pub listed-inside : (l : List VolumeSegment) (n hi : ℕ) (f : List VolumeSegment) (i : ℕ) (z : VolumeSegment) → i < length f → Listed l n hi f
    → (n ≤ (get_or f i z).start.0) × ((get_or f i z).end.0 ≤ hi)
unfolding Listed
listed-inside l n hi [] i z h q = absurd (omega arith)
listed-inside l n hi (g ∷ f) zero z h q = (q.0, q.2)
listed-inside l n hi (g ∷ f) (suc i) z h q =
    let k = listed-inside l (suc g.end.0) hi f i z (omega arith) q.4 in (omega (arith, q.0, q.1, k.0), k.1)

-- the segment holds the send, which is not before the asked time and not of zero length
record Sent (t : ℕ) (send : Interval) (g : VolumeSegment) : Type 0 where
  from : g.start.0 ≤ send.start.0
  late : t ≤ send.start.0
  after : send.start.0 < send.end.0
  by : send.end.0 ≤ g.end.0

module _ (r : PolySeg) (q : Facts r) (t v : ℕ) (pos : 1 ≤ v) (i : ℕ) (send : Interval) (h : found_of r t v ≡ fit_at i send) where
  found_at : AtPlace (Sent t send) (listed r.free) i
  found_at =
      listed_at (Picked (capacity_of r) t (size_of r v) send) (Sent t send) [] _ _ (listed r.free) i
      (λ g a b k.
      let e = find-end-inside (capacity_of r) g.start.0 g.end.0 send.start.0 (size_of r v) send.end (wanted-some _ v pos) k.ends in
      record { from = e.from; late = omega (arith, k.start); after = e.after; by = e.by })
      q.free (offer-picked (capacity_of r) t (size_of r v) send (listed r.free) i h)

  -- the offer stands at a listed segment, as one of size 0 where there are no rates
  pub found-offered : Offered 1 [] 0 (listed r.free) i send.start.0 send.end.0 0
  found-offered =
      listed_at (Sent t send) (λ g. Here 1 [] 0 g send.start.0 send.end.0 0) [] _ _ (listed r.free) i
      (λ g a b k. bare-here g _ _ k.from (omega (arith, k.after)) k.by)
      q.free found_at

  -- no send is of zero length
  pub found_after : send.start.0 < send.end.0
  found_after = (place-get (Sent t send) (listed r.free) i found_at).after

  -- nor starts before the asked time
  pub found-late : t ≤ send.start.0
  found-late = (place-get (Sent t send) (listed r.free) i found_at).late

  pub found_inside : (r.window.start.0 ≤ send.start.0) × (send.end.0 ≤ r.window.end.0)
  found_inside = offered-inside 1 [] 0 r.window.end.0 send.start.0 send.end.0 0 (listed r.free) _ i q.free found-offered

  -- its dates are in the window
  pub found-dates : (send.start.0 ≤ date_max) × (send.end.0 ≤ date_max)
  found-dates =
      let date : r.window.end.0 ≤ date_max = q.window.date in
      (omega (arith, found_inside.1, found_after), omega (arith, found_inside.1))

  -- by rule 2 it is answered with 0 and its own dates
  pub found-answers : rule_of r ≡ 2 → Answers send (answer_in r send)
  found-answers two =
      finds-answer (delays_at r) send
      (window-finds (rule_of r) r.window (delay_list r) (q.covered two) q.window.some send.start.0 send.end.0 found_inside.0 (omega (arith, found_after)) found_inside.1)

  -- and received as 02's words say
  pub found-received : rule_of r ≡ 2 → Received r.window.end.0 (delay_list r) (answer_in r send)
  found-received two =
      received (rule_of r) two r.window (delay_list r) (q.covered two) q.window.some send found_inside.0 (omega (arith, found_after)) found_inside.1

  -- what the cut's call asks
  pub cut-asks : Inside r.free i 0
  cut-asks = offered-inside-list _ _ _ _ _ _ _ _ q.few q.unused found-offered
