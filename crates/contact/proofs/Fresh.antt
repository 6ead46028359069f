-- The contact that an opening gives keeps the record rules, and its total is the sum of its volumes.
use Prim.Native.Nat.{ℕ, ◌+◌, ◌-◌, ◌*◌, ◌≤◌}
use mathlib.Core.Bool.{true}
use mathlib.Core.Path.{◌≡◌, refl, sym, ap, ◌∙◌}
use mathlib.Core.List.{List, [], ◌∷◌, map}
use native.Mathlib.Nat.{mul-div_left}
use native.Mathlib.Omega.{arith}
use lib.ListN.{length, take, length-take, length-map}
use borrow.Author.Tests.{eq-eqb}
use Rattle.units.specs.Limits.{segments_max}
use Rattle.units.specs.declared.Interval.{Interval}
use Rattle.units.specs.Logic.{both, all_of}
use Rattle.units.proofs.Logic.{both_yes, all_go, all_none}
use Rattle.units.proofs.Arrays.{take-map, take-padded, unused-padded}
use Rattle.segmentation.specs.declared.RateSegment.{RateSegment}
use Rattle.segmentation.specs.declared.DelaySegment.{DelaySegment}
use Rattle.segmentation.specs.Capacity.{rate_of}
use Rattle.segmentation.proofs.Capacity.{volume_sum}
use Rattle.contact.specs.declared.Choices.{Choices}
use Rattle.contact.specs.declared.Opened.{Opened}
use Rattle.contact.specs.Segments.{rate_span, covers, delays_ok, volume_of, rate_segment, whole_of, zero_volume, zero_delay, no_volume, no_delay}
use Rattle.contact.specs.Open.{total_of, contact_of, open_contact}
use Rattle.contact.specs.Record.{contact_ok}
use Rattle.contact.specs.Granted.{Spanning, Forward}
use Rattle.contact.proofs.Spans.{covers-most}
use Rattle.contact.proofs.Rates.{rates-forward}
use Rattle.contact.proofs.Delays.{delays-most}
use Rattle.contact.proofs.Refusals.{Passed, passed, done, opened-is}

pub total-sum : (l : List RateSegment) → total_of l ≡ volume_sum (map volume_of l)
unfolding total_of volume_sum
total-sum [] = refl
total-sum (s ∷ l) = ap (λ (v : ℕ). s.rate.0 * (s.end.0 - s.start.0) + v) (total-sum l)

-- the volume that a segment keeps gives its rate back
rate-back : (s : RateSegment) → Spanning s → rate_of (volume_of s) ≡ s.rate.0
rate-back s h = mul-div_left s.rate.0 (omega arith)

rates-back : (l : List RateSegment) → Forward l → map rate_segment (map volume_of l) ≡ l
unfolding Forward
rates-back [] f = refl
rates-back (s ∷ l) f =
    ap (λ (r : ℕ). record { start = s.start; end = s.end; rate = record { 0 = r } } ∷ map rate_segment (map volume_of l)) (rate-back s f.0)
    ∙ ap (λ (k : List RateSegment). s ∷ k) (rates-back l f.1)

whole_back : (l : List RateSegment) → Forward l → all_of whole_of (map volume_of l) ≡ true
unfolding Forward
whole_back [] f = all_none whole_of
whole_back (s ∷ l) f =
    all_go whole_of (volume_of s) (map volume_of l) (eq-eqb _ _ (ap (λ (r : ℕ). r * (s.end.0 - s.start.0)) (sym (rate-back s f.0)))) ∙ whole_back l f.1

-- the opening's tests look at the first places only
passed-takes : (h : Choices) (w : Interval) (rates rates' : List RateSegment) (m : ℕ) (delays delays' : List DelaySegment) (k : ℕ) → take m rates ≡ take m rates' → take k delays ≡ take k delays'
    → Passed h w rates m delays k
    → Passed h w rates' m delays' k
unfolding covers delays_ok
passed-takes h w rates rates' m delays delays' k e f p =
    record {
      choice = p.choice;
      window = p.window;
      rate = rw (← e) p.rate;
      volume = rw (← e) p.volume;
      delay = rw (← f) p.delay;
    }

zero-volume : no_volume zero_volume ≡ true
unfolding no_volume both
zero-volume = refl

zero-delay : no_delay zero_delay ≡ true
unfolding no_delay both
zero-delay = refl

module _ (h : Choices) (w : Interval) (rates : List RateSegment) (m : ℕ) (delays : List DelaySegment) (k : ℕ) where
  module _ (rate-size : length rates ≡ segments_max) (p : Passed h w rates m delays k) where
    volumes-size : length (map volume_of (take m rates)) ≡ m
    volumes-size = let most : m ≤ segments_max = covers-most rate_span w m rates p.rate in simp (length-map, length-take) (omega arith)

    -- the places that the contact uses
    volumes-front : take m (contact_of h w rates m delays k).rates ≡ map volume_of (take m rates)
    volumes-front = take-padded segments_max zero_volume _ m volumes-size

    pub passed-total : total_of (take m rates) ≡ volume_sum (take m (contact_of h w rates m delays k).rates)
    passed-total = total-sum (take m rates) ∙ ap volume_sum (sym volumes-front)

    pub passed_ok : length delays ≡ segments_max → contact_ok (contact_of h w rates m delays k) ≡ true
    unfolding contact_ok
    passed_ok delay-size =
        let most : k ≤ segments_max = delays-most w k delays p.delay in
        let size : length (take k delays) ≡ k = simp length-take (omega arith) in
        let forth : Forward (take m rates) = rates-forward w m rates p.window p.rate in
        let front : take m (map rate_segment (contact_of h w rates m delays k).rates) ≡ take m rates =
        take-map rate_segment m _ ∙ ap (map rate_segment) volumes-front ∙ rates-back (take m rates) forth in
        let again : Passed h w (map rate_segment (contact_of h w rates m delays k).rates) m (contact_of h w rates m delays k).delays k =
        passed-takes h w rates _ m delays _ k (sym front) (sym (take-padded segments_max zero_delay _ k size)) p in
        both_yes _ _ (eq-eqb _ _ (ap (λ (r : Opened). r.number) (done _ _ _ _ _ _ again)))
        (both_yes _ _ (ap (all_of whole_of) volumes-front ∙ whole_back (take m rates) forth)
        (both_yes _ _ (unused-padded segments_max zero_volume no_volume _ m volumes-size zero-volume)
        (unused-padded segments_max zero_delay no_delay _ k size zero-delay)))

  pub opened-ok : length rates ≡ segments_max → length delays ≡ segments_max → (open_contact h w rates m delays k).number ≡ 0 → contact_ok (open_contact h w rates m delays k).contact ≡ true
  opened-ok a b e =
      let o = opened-is h w rates m delays k e in ap (λ (r : Opened). contact_ok r.contact) o.0 ∙ passed_ok a o.1 b

  pub opened-total : length rates ≡ segments_max → (open_contact h w rates m delays k).number ≡ 0 → total_of (take m rates) ≡ volume_sum (take m (contact_of h w rates m delays k).rates)
  opened-total a e = passed-total a (passed h w rates m delays k e)
