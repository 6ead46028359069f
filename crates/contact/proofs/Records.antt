-- The record's test is the opening's with the contact's own figures: what the code tests instead is the same.
use Prim.Native.Nat.{ℕ, ◌<◌, ◌≤◌}
use mathlib.Core.Bool.{Bool, true, false}
use mathlib.Core.Logic.{◌⊎◌}
use mathlib.Core.Path.{◌≡◌, sym, ap, ◌∙◌}
use mathlib.Core.List.{List, map}
use lib.ListN.{take, drop}
use borrow.Author.Tests.{eqb-true, eq-eqb}
use Rattle.units.specs.declared.Interval.{Interval}
use Rattle.units.specs.Logic.{both, all_of}
use Rattle.units.specs.Limits.{segments_max, window_ok}
use Rattle.units.proofs.Logic.{both-fst, both-snd, both_yes, same_test}
use Rattle.units.proofs.Counted.{counted-some, counted-most, counted_is, counted-holds}
use Rattle.units.proofs.Arrays.{take-map}
use Rattle.segmentation.specs.declared.VolumeSegment.{VolumeSegment}
use Rattle.contact.specs.declared.Contact.{Contact}
use Rattle.contact.specs.declared.Opened.{Opened}
use Rattle.contact.specs.Choices.{choices_ok}
use Rattle.contact.specs.Segments.{rate_span, volume_span, covers, delays_ok, rate_segment, whole_of, no_volume, no_delay}
use Rattle.contact.specs.Open.{volume_ok}
use Rattle.contact.specs.Record.{contact_ok}
use Rattle.contact.specs.Granted.{volumes_ok, counted_volumes}
use Rattle.contact.proofs.Told.{not-counted}
use Rattle.contact.proofs.Spans.{covers-some, covers-most, covers-spans, spans-map}
use Rattle.contact.proofs.Refusals.{Passed, passed, done}

-- what the opening tests of the rates is what the record's test asks of the volumes, but that they are whole
module _ (w : Interval) (n : ℕ) (l : List VolumeSegment) where
  rates-span : covers rate_span w n (map rate_segment l) ≡ covers volume_span w n l
  unfolding covers
  rates-span =
      rw (take-map rate_segment n l, spans-map rate_segment rate_span w.start.0 w.end.0 (take n l))

  pub rates-volumes : covers rate_span w n (map rate_segment l) ≡ true → all_of whole_of (take n l) ≡ true → volume_ok (take n (map rate_segment l)) ≡ true → counted_volumes w n l ≡ true
  unfolding counted_volumes volumes_ok
  rates-volumes c e v =
      let k : covers volume_span w n l ≡ true = sym rates-span ∙ c in
      counted_is segments_max n _ (covers-some volume_span w n l k) (covers-most volume_span w n l k) ∙ both_yes _ _ (covers-spans volume_span w n l k) (both_yes _ _ e (rw take-map at v))

  -- the count is not 1 to 16, or it is
  pub volumes-no : (n < 1) ⊎ (segments_max < n) → counted_volumes w n l ≡ false
  unfolding counted_volumes
  volumes-no h = not-counted n _ h

  pub volumes-are : 1 ≤ n → n ≤ segments_max → counted_volumes w n l ≡ volumes_ok w (take n l)
  unfolding counted_volumes
  volumes-are h k = counted_is segments_max n _ h k

  module _ (e : counted_volumes w n l ≡ true) where
    pub volumes-hold : volumes_ok w (take n l) ≡ true
    unfolding counted_volumes
    volumes-hold = counted-holds segments_max n _ e

    pub volumes-some : 1 ≤ n
    unfolding counted_volumes
    volumes-some = counted-some segments_max n _ e

    pub volumes-most : n ≤ segments_max
    unfolding counted_volumes
    volumes-most = counted-most segments_max n _ e

    pub volumes-cover : covers rate_span w n (map rate_segment l) ≡ true
    unfolding volumes_ok covers
    volumes-cover = rates-span ∙ counted_is segments_max n _ volumes-some volumes-most ∙ both-fst _ _ volumes-hold

    pub volumes-whole : all_of whole_of (take n l) ≡ true
    unfolding volumes_ok
    volumes-whole = both-fst _ _ (both-snd _ _ volumes-hold)

    pub volumes-within : volume_ok (take n (map rate_segment l)) ≡ true
    unfolding volumes_ok
    volumes-within = rw take-map (both-snd _ _ (both-snd _ _ volumes-hold))

-- the code's tests, in their order
abbrev pub tests_of : Contact → Bool
tests_of c =
    both (choices_ok c.choices)
    (both (window_ok c.window)
    (both (both (counted_volumes c.window c.rate_count c.rates) (all_of no_volume (drop c.rate_count c.rates)))
    (both (delays_ok c.window c.delay_count c.delays) (all_of no_delay (drop c.delay_count c.delays)))))

module _ (c : Contact) where
  -- an opening with the contact's own figures passes
  abbrev Own : Type 0
  Own = Passed c.choices c.window (map rate_segment c.rates) c.rate_count c.delays c.delay_count

  ok_tests : contact_ok c ≡ true → tests_of c ≡ true
  unfolding contact_ok
  ok_tests e =
      let p : Own = passed _ _ _ _ _ _ (eqb-true _ _ (both-fst _ _ e)) in
      let rest = both-snd _ _ e in
      let unused = both-snd _ _ rest in
      both_yes _ _ p.choice (both_yes _ _ p.window
      (both_yes _ _ (both_yes _ _ (rates-volumes _ _ _ p.rate (both-fst _ _ rest) p.volume) (both-fst _ _ unused)) (both_yes _ _ p.delay (both-snd _ _ unused))))

  tests-ok : tests_of c ≡ true → contact_ok c ≡ true
  unfolding contact_ok
  tests-ok e =
      let e0 = both-snd _ _ e in
      let e1 = both-snd _ _ e0 in
      let r = both-fst _ _ e1 in
      let d = both-snd _ _ e1 in
      let v : counted_volumes c.window c.rate_count c.rates ≡ true = both-fst _ _ r in
      let p : Own = record { choice = both-fst _ _ e; window = both-fst _ _ e0; rate = volumes-cover _ _ _ v; volume = volumes-within _ _ _ v; delay = both-fst _ _ d } in
      both_yes _ _ (eq-eqb _ _ (ap (λ (r : Opened). r.number) (done _ _ _ _ _ _ p))) (both_yes _ _ (volumes-whole _ _ _ v) (both_yes _ _ (both-snd _ _ r) (both-snd _ _ d)))

  pub contact_is : contact_ok c ≡ tests_of c
  contact_is = same_test _ _ ok_tests tests-ok
