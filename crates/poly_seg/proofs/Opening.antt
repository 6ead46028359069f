-- The opening by its number: by the test of the delays, what the number 0 tells, and what another is refused with.
use Prim.Native.Nat.{ℕ}
use mathlib.Core.Bool.{Bool, true, false}
use mathlib.Core.Path.{◌≡◌, refl, sym, ap, ◌∙◌}
use mathlib.Core.List.{List, [], ◌∷◌}
use native.Mathlib.Omega.{arith}
use lib.ListN.{take}
use Rattle.units.specs.declared.Interval.{Interval}
use Rattle.units.specs.Limits.{segments_max, window_ok}
use Rattle.units.specs.Logic.{unless}
use Rattle.units.specs.Arrays.{padded}
use Rattle.units.proofs.Logic.{unless-go, unless-keeps}
use Rattle.segmentation.specs.declared.DelaySegment.{DelaySegment}
use Rattle.contact.specs.Segments.{zero_delay}
use Rattle.free_list.specs.declared.FreeList.{FreeList}
use Rattle.free_list.specs.Cut.{list_in, whole_window}
use Rattle.poly.specs.declared.Polynome.{Polynome}
use Rattle.poly.specs.Poly.{poly_ok}
use Rattle.poly_seg.specs.declared.Choices.{Choices}
use Rattle.poly_seg.specs.declared.Opened.{Opened}
use Rattle.poly_seg.specs.Choices.{choices_ok}
use Rattle.poly_seg.specs.Open.{delays_by, refused_opening, open_of}
use Rattle.poly_seg.specs.Granted.{number_by}

-- each test holds, and the answer where nothing is refused
pub record Passed (h : Choices) (w : Interval) (p : Polynome) (delays : List DelaySegment) (k : ℕ) : Type 0 where
  pub choices : choices_ok h ≡ true
  pub window : window_ok w ≡ true
  pub delay : delays_by h.rule.0 w k delays ≡ true
  pub polynome : poly_ok h.mode.0 p w ≡ true

abbrev pub done_of : Choices → Interval → Polynome → List DelaySegment → ℕ → FreeList → Opened
done_of h w p delays k f =
    record { number = 0; manager = record { choices = h; window = w; polynome = p; delays = delays; delay_count = k; free = f } }

module _ (h : Choices) (w : Interval) (p : Polynome) (delays : List DelaySegment) (k : ℕ) where
  abbrev pub opened : Opened
  opened = open_of h w p delays k

  pushed : (a b c d : Bool) (x : Opened) → x.number ≡ 0
      → (unless a (refused_opening 2) (unless b (refused_opening 3) (unless c (refused_opening 5) (unless d (refused_opening 11) x)))).number ≡ unless a 2 (unless b 3 (unless c 5 (unless d 11 0)))
  pushed true true true true x z = z
  pushed true true true false x z = refl
  pushed true true false d x z = refl
  pushed true false c d x z = refl
  pushed false b c d x z = refl

  -- its number, by the test of the delays
  pub open-number : opened.number ≡ number_by h w p (delays_by h.rule.0 w k delays)
  unfolding open_of number_by
  open-number = pushed (choices_ok h) (window_ok w) (delays_by h.rule.0 w k delays) (poly_ok h.mode.0 p w) _ refl

  pub open_done : Passed h w p delays k → opened ≡ done_of h w p (padded segments_max zero_delay (take k delays)) k (list_in (whole_window w 0 ∷ []))
  unfolding open_of
  open_done t = unless-go _ _ _ t.choices ∙ unless-go _ _ _ t.window ∙ unless-go _ _ _ t.delay ∙ unless-go _ _ _ t.polynome

  pub open-zero : Passed h w p delays k → opened.number ≡ 0
  open-zero t = ap (λ (o : Opened). o.number) (open_done t)

  -- the answer that is put together of these parts
  pub open-parts : Passed h w p delays k → (ds : List DelaySegment) → ds ≡ padded segments_max zero_delay (take k delays)
      → (f : FreeList) → f ≡ list_in (whole_window w 0 ∷ []) → done_of h w p ds k f ≡ opened
  open-parts t ds d f e = rw (d, e) (sym (open_done t))

  -- what holds of each refusal and of what is done holds of the opening
  open-keeps : (P : Opened → Type 0) → P (refused_opening 2) → P (refused_opening 3) → P (refused_opening 5) → P (refused_opening 11)
      → (Passed h w p delays k → P (done_of h w p (padded segments_max zero_delay (take k delays)) k (list_in (whole_window w 0 ∷ []))))
      → P opened
  unfolding open_of
  open-keeps P p2 p3 p5 p11 p0 =
      unless-keeps P (choices_ok h) _ _ (λ _. p2)
      (λ h0. unless-keeps P (window_ok w) _ _ (λ _. p3)
      (λ h1. unless-keeps P (delays_by h.rule.0 w k delays) _ _ (λ _. p5)
      (λ h2. unless-keeps P (poly_ok h.mode.0 p w) _ _ (λ _. p11) (λ h3. p0 (record { choices = h0; window = h1; delay = h2; polynome = h3 })))))

  -- what the number 0 tells
  pub open-passed : opened.number ≡ 0 → Passed h w p delays k
  open-passed =
      open-keeps (λ (o : Opened). o.number ≡ 0 → Passed h w p delays k)
      (λ e. absurd (omega arith)) (λ e. absurd (omega arith)) (λ e. absurd (omega arith)) (λ e. absurd (omega arith)) (λ t e. t)

  -- any other is a refusal, with nothing in the record
  pub open-refused : (n : ℕ) → opened.number ≡ n → (n ≡ 0 → ⊥) → opened ≡ refused_opening n
  open-refused n =
      open-keeps (λ (o : Opened). o.number ≡ n → (n ≡ 0 → ⊥) → o ≡ refused_opening n)
      (λ e _. ap refused_opening e) (λ e _. ap refused_opening e) (λ e _. ap refused_opening e) (λ e _. ap refused_opening e) (λ t e f. absurd (f (sym e)))

  -- nothing is looked up, so 8 is none of its numbers
  pub open-never-8 : opened.number ≡ 8 → ⊥
  open-never-8 = open-keeps (λ (o : Opened). o.number ≡ 8 → ⊥) (λ z. omega arith) (λ z. omega arith) (λ z. omega arith) (λ z. omega arith) (λ t z. omega arith)
