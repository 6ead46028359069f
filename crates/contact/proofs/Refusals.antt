-- The opening, refusal by refusal, and what its number tells: 0 where each test holds, else the refusal's.
use Prim.Native.Nat.{ℕ}
use mathlib.Core.Bool.{Bool, true, false}
use mathlib.Core.Path.{◌≡◌, refl, sym, ap, ◌∙◌}
use mathlib.Core.List.{List, map}
use native.Mathlib.Omega.{arith}
use lib.ListN.{take}
use Rattle.units.specs.declared.Volume.{Volume as Amount}
use lib.Dec.{eqb}
use borrow.Author.Tests.{eq-eqb}
use Rattle.units.proofs.Refusals.{told-once}
use Rattle.units.specs.declared.refusal.Refusal.TheVariants.{Record, Bundle, Window, Rates, Delays, Volume, NoOffer, NoDelay, NotOffered, Full, Polynomial, SelfUpdate, Queue, Classes, ZeroLength}
use Rattle.units.specs.declared.Interval.{Interval}
use Rattle.units.specs.Logic.{pick}
use Rattle.units.specs.Limits.{segments_max, window_ok}
use Rattle.units.specs.Arrays.{padded}
use Rattle.units.proofs.Logic.{no_both, unless-go, unless-stop, unless-keeps}
use Rattle.segmentation.specs.declared.RateSegment.{RateSegment}
use Rattle.segmentation.specs.declared.VolumeSegment.{VolumeSegment}
use Rattle.segmentation.specs.declared.DelaySegment.{DelaySegment}
use Rattle.contact.specs.declared.Choices.{Choices}
use Rattle.contact.specs.declared.Contact.{Contact}
use Rattle.contact.specs.declared.Opened.{Opened}
use Rattle.std.specs.Prelude.{Option, Some, None, Result, Ok, Err, ok_or}
use Rattle.units.specs.declared.refusal.Refusal.{Refusal}
use Rattle.units.specs.Refusal.{number_of}
use Rattle.contact.specs.Choices.{choices_ok}
use Rattle.contact.specs.Segments.{rate_span, covers, delays_ok, volume_of, zero_volume, zero_delay}
use Rattle.contact.specs.Granted.{total_within, opened_by}
use Rattle.contact.specs.Open.{total_of, volume_ok, contact_of, refused_contact, open_contact}

-- what the total tells of its test
over : (b : Bool) (v : Amount) → pick b (Some v) None ≡ None → b ≡ false
over true v e = let z : ◌≡◌ {A = ℕ} 0 1 = cc in absurd (omega arith)
over false v e = refl

of : (b : Bool) (v t : Amount) → pick b (Some v) None ≡ Some t → (b ≡ true) × (v ≡ t)
of true v t e = (refl, cc)
of false v t e = let z : ◌≡◌ {A = ℕ} 0 1 = cc in absurd (omega arith)

pub within-over : (l : List RateSegment) → total_within l ≡ None → volume_ok l ≡ false
within-over l e = over _ _ e

pub within_of : (l : List RateSegment) (t : Amount) → total_within l ≡ Some t → (volume_ok l ≡ true) × (record { 0 = total_of l } ≡ t)
within_of l t e = of _ _ _ e

-- no refusal has the number of what is done
pub refusal-some : (r : Refusal) → eqb (number_of r) 0 ≡ false
refusal-some Record = refl
refusal-some Bundle = refl
refusal-some Window = refl
refusal-some Rates = refl
refusal-some Delays = refl
refusal-some Volume = refl
refusal-some NoOffer = refl
refusal-some NoDelay = refl
refusal-some NotOffered = refl
refusal-some Full = refl
refusal-some Polynomial = refl
refusal-some SelfUpdate = refl
refusal-some Queue = refl
refusal-some Classes = refl
refusal-some ZeroLength = refl

-- the answer tells what was handed on
err-once : (a b : Refusal) → number_of a ≡ number_of b → a ≡ b
err-once a b h = let e : ◌≡◌ {A = Result Unit Refusal} (Err a) (Err b) = told-once (Err a) (Err b) h in cc

pub opened-once : (r q : Result (Contact × Amount) Refusal) → opened_by r ≡ opened_by q → r ≡ q
opened-once (Ok x) (Ok y) h = ap (λ (o : Opened). Ok (o.contact, o.total)) h
opened-once (Ok x) (Err b) h = absurd (no_both (eq-eqb _ _ (sym (ap (λ (o : Opened). o.number) h))) (refusal-some b))
opened-once (Err a) (Ok y) h = absurd (no_both (eq-eqb _ _ (ap (λ (o : Opened). o.number) h)) (refusal-some a))
opened-once (Err a) (Err b) h = ap Err (err-once a b (ap (λ (o : Opened). o.number) h))

-- an error that `?` hands on
pub refused_as : {X : Type 0} (r : Result (Contact × Amount) Refusal) (y e d : Refusal) (o : Option X) → r ≡ Err y → y ≡ e → Err e ≡ ok_or o d → o ≡ None → opened_by r ≡ refused_contact (number_of d)
refused_as r y e d o f g h k = ap opened_by (f ∙ ap Err (g ∙ same h k))
  where
    same : Err e ≡ ok_or o d → o ≡ None → e ≡ d
    same h k = cc

-- the answer where nothing is refused
abbrev pub done_of : Choices → Interval → List RateSegment → ℕ → List DelaySegment → ℕ → Opened
done_of h w rates m delays k =
    record { number = 0; total = record { 0 = total_of (take m rates) }; contact = contact_of h w rates m delays k }

-- each test holds
pub record Passed (h : Choices) (w : Interval) (rates : List RateSegment) (m : ℕ) (delays : List DelaySegment) (k : ℕ) : Type 0 where
  pub choice : choices_ok h ≡ true
  pub window : window_ok w ≡ true
  pub rate : covers rate_span w m rates ≡ true
  pub volume : volume_ok (take m rates) ≡ true
  pub delay : delays_ok w k delays ≡ true

module _ (h : Choices) (w : Interval) (rates : List RateSegment) (m : ℕ) (delays : List DelaySegment) (k : ℕ) where
  pub no-choice : choices_ok h ≡ false → open_contact h w rates m delays k ≡ refused_contact 2
  unfolding open_contact
  no-choice e = unless-stop _ _ _ e

  pub no-window : choices_ok h ≡ true → window_ok w ≡ false → open_contact h w rates m delays k ≡ refused_contact 3
  unfolding open_contact
  no-window h0 e = unless-go _ _ _ h0 ∙ unless-stop _ _ _ e

  module _ (h0 : choices_ok h ≡ true) (h1 : window_ok w ≡ true) where
    pub no-rates : covers rate_span w m rates ≡ false → open_contact h w rates m delays k ≡ refused_contact 4
    unfolding open_contact
    no-rates e = unless-go _ _ _ h0 ∙ unless-go _ _ _ h1 ∙ unless-stop _ _ _ e

    module _ (h2 : covers rate_span w m rates ≡ true) where
      pub no-volume : volume_ok (take m rates) ≡ false → open_contact h w rates m delays k ≡ refused_contact 6
      unfolding open_contact
      no-volume e = unless-go _ _ _ h0 ∙ unless-go _ _ _ h1 ∙ unless-go _ _ _ h2 ∙ unless-stop _ _ _ e

      pub no-delays : volume_ok (take m rates) ≡ true → delays_ok w k delays ≡ false → open_contact h w rates m delays k ≡ refused_contact 5
      unfolding open_contact
      no-delays h3 e = unless-go _ _ _ h0 ∙ unless-go _ _ _ h1 ∙ unless-go _ _ _ h2 ∙ unless-go _ _ _ h3 ∙ unless-stop _ _ _ e

  pub done : Passed h w rates m delays k → open_contact h w rates m delays k ≡ done_of h w rates m delays k
  unfolding open_contact
  done p = unless-go _ _ _ p.choice ∙ unless-go _ _ _ p.window ∙ unless-go _ _ _ p.rate ∙ unless-go _ _ _ p.volume ∙ unless-go _ _ _ p.delay

  -- the answer that is put together of these parts
  pub done-of : Passed h w rates m delays k → (t : Amount) → record { 0 = total_of (take m rates) } ≡ t
      → (vs : List VolumeSegment) → vs ≡ padded segments_max zero_volume (map volume_of (take m rates))
      → (ds : List DelaySegment) → ds ≡ padded segments_max zero_delay (take k delays)
      → ◌≡◌ {A = Opened} (record { number = 0; total = t; contact = record { choices = h; window = w; rates = vs; rate_count = m; delays = ds; delay_count = k } }) (open_contact h w rates m delays k)
  done-of p t e vs f ds g = rw (← e, f, g) (sym (done p))

  -- what holds of each refusal and of the answer holds of the opening
  pub opening-keeps : (P : Opened → Type 0) → P (refused_contact 2) → P (refused_contact 3) → P (refused_contact 4) → P (refused_contact 6) → P (refused_contact 5)
      → (Passed h w rates m delays k → P (done_of h w rates m delays k))
      → P (open_contact h w rates m delays k)
  unfolding open_contact
  opening-keeps P p2 p3 p4 p6 p5 p0 =
      unless-keeps P (choices_ok h) _ _ (λ _. p2)
      (λ h0. unless-keeps P (window_ok w) _ _ (λ _. p3)
      (λ h1. unless-keeps P (covers rate_span w m rates) _ _ (λ _. p4)
      (λ h2. unless-keeps P (volume_ok (take m rates)) _ _ (λ _. p6)
      (λ h3. unless-keeps P (delays_ok w k delays) _ _ (λ _. p5) (λ h4. p0 (record { choice = h0; window = h1; rate = h2; volume = h3; delay = h4 }))))))

  -- it has nothing to look up, so 8 is none of its numbers
  pub opening-never-8 : (open_contact h w rates m delays k).number ≡ 8 → ⊥
  opening-never-8 =
      opening-keeps (λ (o : Opened). o.number ≡ 8 → ⊥) (λ z. omega arith) (λ z. omega arith) (λ z. omega arith) (λ z. omega arith) (λ z. omega arith) (λ p z. omega arith)

  pub passed : (open_contact h w rates m delays k).number ≡ 0 → Passed h w rates m delays k
  passed =
      opening-keeps (λ (r : Opened). r.number ≡ 0 → Passed h w rates m delays k)
      (λ e. absurd (omega arith)) (λ e. absurd (omega arith)) (λ e. absurd (omega arith)) (λ e. absurd (omega arith)) (λ e. absurd (omega arith)) (λ p e. p)

  pub opened-is : (open_contact h w rates m delays k).number ≡ 0 → (open_contact h w rates m delays k ≡ done_of h w rates m delays k) × (Passed h w rates m delays k)
  opened-is e = (done (passed e), passed e)

  pub opened-refused : (n : ℕ) → (open_contact h w rates m delays k).number ≡ n → (n ≡ 0 → ⊥) → open_contact h w rates m delays k ≡ refused_contact n
  opened-refused n =
      opening-keeps (λ (r : Opened). r.number ≡ n → (n ≡ 0 → ⊥) → r ≡ refused_contact n)
      (λ e _. ap refused_contact e) (λ e _. ap refused_contact e) (λ e _. ap refused_contact e) (λ e _. ap refused_contact e) (λ e _. ap refused_contact e) (λ p e f. absurd (f (sym e)))
