-- 02, R-4: on segments that cover the window each date of it has one segment under rule 2, a later date none before it, and the lookups find it.
use Prim.Native.Nat.{ℕ, zero, suc, ◌+◌, ◌<◌, ◌≤◌}
use mathlib.Core.Bool.{true, false}
use mathlib.Core.Path.{◌≡◌, refl, sym, ap, ◌∙◌}
use mathlib.Core.List.{List, [], ◌∷◌}
use mathlib.Core.Logic.{⊎_elim, inl, inr}
use native.Mathlib.Omega.{arith}
use lib.Dec.{leb, ltb, eqb}
use lib.ListN.{length, get_or, drop}
use borrow.Author.Tests.{eqb-true, leb-false, ltb-false, le-leb, lt-leb, le-ltb}
use Rattle.units.specs.Logic.{pick}
use Rattle.units.proofs.Logic.{no_both, both_go, pick-keeps}
use Rattle.units.proofs.Numbers.{le-or-lt, eq-or-ne}
use Rattle.units.proofs.Loop.{at-whole}
use Rattle.units.specs.declared.Interval.{Interval}
use Rattle.segmentation.specs.declared.DelaySegment.{DelaySegment}
use Rattle.std.specs.Prelude.{Some}
use Rattle.segmentation.specs.Delay.{belongs, from_date, heads, delays_of, answer_with}
use Rattle.segmentation.proofs.DelayLaws.{Reaches, belongs-second, belongs-inside, belongs-last, lies-last, lies-before}
use Rattle.segmentation.proofs.DelayLoop.{from-here, from_on}
use Rattle.contact.specs.Segments.{delay_span, spans, zero_delay}
use Rattle.contact.specs.Boundary.{Lies, Received}
use Rattle.contact.proofs.Spans.{spans-end, spans-start, spans-some, spans-rest, spans-forth}

abbrev Covers : ℕ → ℕ → List DelaySegment → Type 0
Covers a b l = spans delay_span a b l ≡ true

nothing : (a b : ℕ) → Covers a b [] → a ≡ b
nothing a b c = eqb-true a b (sym (spans-end delay_span b a) ∙ c)

more : (b : ℕ) (x : DelaySegment) (k : List DelaySegment) (a : ℕ) → Covers a b (x ∷ k) → a < b
more b x k a c =
    omega (arith, spans-start delay_span b x k a c, spans-some delay_span b x k a c, spans-forth delay_span b k x.end.0 (spans-rest delay_span b x k a c))

-- by either rule a date of the window belongs to a segment
pub covers-reach : (rule b t : ℕ) (l : List DelaySegment) (a : ℕ) → Covers a b l → a < b → a ≤ t → t ≤ b → Reaches rule t l
unfolding Reaches
covers-reach rule b t [] a c some low high = absurd (omega (arith, nothing a b c))
covers-reach rule b t (d ∷ []) a c some low high =
    inl (belongs-last rule t d (omega (arith, spans-start delay_span b d [] a c)) (omega (arith, nothing d.end.0 b (spans-rest delay_span b d [] a c))))
covers-reach rule b t (d ∷ x ∷ k) a c some low high =
    let start = spans-start delay_span b d (x ∷ k) a c in
    let rest = spans-rest delay_span b d (x ∷ k) a c in
    ⊎_elim
    (λ (h : d.end.0 ≤ t). inr (covers-reach rule b t (x ∷ k) d.end.0 rest (more b x k d.end.0 rest) h high))
    (λ (h : t < d.end.0). inl (belongs-inside rule t d (omega (arith, start)) (length (x ∷ k)) h))
    (le-or-lt d.end.0 t)

-- each segment starts where the list does or later, and ends in the window
inside : (b : ℕ) (l : List DelaySegment) (a i : ℕ) → Covers a b l → i < length l → (a ≤ (get_or l i zero_delay).start.0) × ((get_or l i zero_delay).end.0 ≤ b)
inside b [] a i c h = absurd (omega arith)
inside b (d ∷ l) a zero c h = (omega (arith, spans-start delay_span b d l a c), spans-forth delay_span b l d.end.0 (spans-rest delay_span b d l a c))
inside b (d ∷ l) a (suc i) c h =
    let k = inside b l d.end.0 i (spans-rest delay_span b d l a c) (omega arith) in
    (omega (arith, k.0, spans-start delay_span b d l a c, spans-some delay_span b d l a c), k.1)

-- a segment ends before a later one starts
ordered : (b : ℕ) (l : List DelaySegment) (a i j : ℕ) → Covers a b l → i < j → j < length l → (get_or l i zero_delay).end.0 ≤ (get_or l j zero_delay).start.0
ordered b [] a i j c h k = absurd (omega arith)
ordered b (d ∷ l) a i zero c h k = absurd (omega arith)
ordered b (d ∷ l) a zero (suc j) c h k = (inside b l d.end.0 j (spans-rest delay_span b d l a c) (omega arith)).0
ordered b (d ∷ l) a (suc i) (suc j) c h k = ordered b l d.end.0 i j (spans-rest delay_span b d l a c) (omega arith) (omega arith)

-- a date past the segment does not belong to it, where another follows
past : (t : ℕ) (d : DelaySegment) (n : ℕ) → d.start.0 ≤ t → d.end.0 ≤ t → (n ≡ 0 → ⊥) → belongs 2 t d n ≡ false
past t d n s h k = belongs-second 2 t d n refl ∙ both_go _ _ (le-leb _ _ s) ∙ lies-before n t d.end.0 k ∙ le-ltb _ _ h

-- the lookup by rule 2 finds the segment that the date has
pub lies-from : (b t : ℕ) (l : List DelaySegment) (a i : ℕ) → Covers a b l → Lies b l t i → from_date 2 l t ≡ drop i l
lies-from b t [] a i c q = absurd (omega (arith, q.place))
lies-from b t (d ∷ l) a zero c q = from-here 2 d l t (⊎_elim
    (λ (h : (d.start.0 ≤ t) × (t < d.end.0)). belongs-inside 2 t d h.0 (length l) h.1)
    (λ (h : (t ≡ b) × (1 ≡ suc (length l))). last l h.0 h.1 (spans-rest delay_span b d l a c))
    q.lies)
  where
    last : (k : List DelaySegment) → t ≡ b → 1 ≡ suc (length k) → Covers d.end.0 b k → belongs 2 t d (length k) ≡ true
    last [] e f r =
        let end = nothing d.end.0 b r in
        belongs-last 2 t d (omega (arith, e, end, spans-some delay_span b d l a c)) (omega (arith, e, end))
    last (x ∷ k) e f r = absurd (omega (arith, f))
lies-from b t (d ∷ l) a (suc i) c q =
    let rest = spans-rest delay_span b d l a c in
    let some = spans-some delay_span b d l a c in
    let held = inside b l d.end.0 i rest (omega (arith, q.place)) in
    let late : d.end.0 ≤ t = ⊎_elim
    (λ (h : ((get_or l i zero_delay).start.0 ≤ t) × (t < (get_or l i zero_delay).end.0)). omega (arith, held.0, h.0))
    (λ (h : (t ≡ b) × (suc i + 1 ≡ suc (length l))). omega (arith, h.0, spans-forth delay_span b l d.end.0 rest))
    q.lies in
    let one : Lies b l t i = record {
      place = omega (arith, q.place);
      lies = ⊎_elim (λ (h : ((get_or l i zero_delay).start.0 ≤ t) × (t < (get_or l i zero_delay).end.0)). inl h)
          (λ (h : (t ≡ b) × (suc i + 1 ≡ suc (length l))). inr (h.0, omega (arith, h.1))) q.lies;
    } in
    from_on 2 d l t (past t d (length l) (omega arith) late (λ z. omega (arith, z, q.place))) ∙ lies-from b t l d.end.0 i rest one

-- a date of the window has a segment
pub record Placed (b : ℕ) (l : List DelaySegment) (t : ℕ) : Type 0 where
  pub at : ℕ
  pub is : Lies b l t at

next : (b t : ℕ) (d : DelaySegment) (l : List DelaySegment) → Placed b l t → Placed b (d ∷ l) t
next b t d l p =
    record {
      at = suc p.at;
      is = record {
        place = omega (arith, p.is.place);
        lies = ⊎_elim (λ (z : ((get_or l p.at zero_delay).start.0 ≤ t) × (t < (get_or l p.at zero_delay).end.0)). inl z)
            (λ (z : (t ≡ b) × (p.at + 1 ≡ length l)). inr (z.0, omega (arith, z.1))) p.is.lies;
      };
    }

pub lies-some : (b t : ℕ) (l : List DelaySegment) (a : ℕ) → Covers a b l → a < b → a ≤ t → t ≤ b → Placed b l t
lies-some b t [] a c some low high = absurd (omega (arith, nothing a b c))
lies-some b t (d ∷ []) a c some low high =
    record {
      at = 0;
      is = record {
        place = omega arith;
        lies = ⊎_elim
            (λ (h : d.end.0 ≤ t). inr (omega (arith, nothing d.end.0 b (spans-rest delay_span b d [] a c)), refl))
            (λ (h : t < d.end.0). inl (omega (arith, spans-start delay_span b d [] a c), h))
            (le-or-lt d.end.0 t);
      };
    }
lies-some b t (d ∷ x ∷ k) a c some low high =
    let start = spans-start delay_span b d (x ∷ k) a c in
    let rest = spans-rest delay_span b d (x ∷ k) a c in
    ⊎_elim
    (λ (h : d.end.0 ≤ t). next b t d (x ∷ k) (lies-some b t (x ∷ k) d.end.0 rest (more b x k d.end.0 rest) h high))
    (λ (h : t < d.end.0). record { at = 0; is = record { place = omega arith; lies = inl (omega (arith, start), h) } })
    (le-or-lt d.end.0 t)

module _ (b : ℕ) (l : List DelaySegment) (a : ℕ) (c : Covers a b l) where
  -- a later date has no earlier segment
  pub lies-order : (s e i j : ℕ) → s ≤ e → Lies b l s i → Lies b l e j → i ≤ j
  lies-order s e i j h p q =
      ⊎_elim
      (λ (z : i ≤ j). z)
      (λ (z : j < i).
      let next = ordered b l a j i c z p.place in
      let by = inside b l a j c q.place in
      ⊎_elim
      (λ (y : ((get_or l j zero_delay).start.0 ≤ e) × (e < (get_or l j zero_delay).end.0)).
      ⊎_elim
      (λ (x : ((get_or l i zero_delay).start.0 ≤ s) × (s < (get_or l i zero_delay).end.0)). absurd (omega (arith, next, y.1, x.0)))
      (λ (x : (s ≡ b) × (i + 1 ≡ length l)). absurd (omega (arith, by.1, y.1, x.0)))
      p.lies)
      (λ (y : (e ≡ b) × (j + 1 ≡ length l)). absurd (omega (arith, y.1, p.place)))
      q.lies)
      (le-or-lt i j)

  -- so a date has one segment
  pub lies-one : (t i j : ℕ) → Lies b l t i → Lies b l t j → i ≡ j
  lies-one t i j p q = omega (arith, lies-order t t i j (omega arith) p q, lies-order t t j i (omega arith) q p)

  -- and the delays by rule 2 are those of the two dates' segments
  pub lies-delays : (s e i j : ℕ) → Lies b l s i → Lies b l e j → delays_of 2 l s e ≡ Some (record { first = (get_or l i zero_delay).delay; last = (get_or l j zero_delay).delay })
  unfolding delays_of
  lies-delays s e i j p q =
      rw (lies-from b s l a i c p, lies-from b e l a j c q) (heads-at l i j p.place q.place)
    where
      heads-at : (l : List DelaySegment) (i j : ℕ) → i < length l → j < length l → heads (drop i l) (drop j l) ≡ Some (record { first = (get_or l i zero_delay).delay; last = (get_or l j zero_delay).delay })
      heads-at l i j h k = rw (at-whole l i zero_delay h, at-whole l j zero_delay k)

-- a date past the segment is past it for a later date too
still-past : (d : DelaySegment) (n s e : ℕ) → d.start.0 ≤ s → s ≤ e → belongs 2 s d n ≡ false → belongs 2 e d n ≡ false
still-past d n s e low h f =
    let low' : d.start.0 ≤ e = omega arith in
    let at : pick (eqb n 0) (leb s d.end.0) (ltb s d.end.0) ≡ false =
    sym (belongs-second 2 s d n refl ∙ both_go _ _ (le-leb d.start.0 s low)) ∙ f in
    belongs-second 2 e d n refl ∙ both_go _ _ (le-leb d.start.0 e low')
    ∙ ⊎_elim
    (λ (z : n ≡ 0).
    let past : d.end.0 < s = leb-false s d.end.0 (sym (lies-last n s d.end.0 z) ∙ at) in
    lies-last n e d.end.0 z ∙ lt-leb e d.end.0 (omega arith))
    (λ (z : n ≡ 0 → ⊥).
    let past : d.end.0 ≤ s = ltb-false s d.end.0 (sym (lies-before n s d.end.0 z) ∙ at) in
    lies-before n e d.end.0 z ∙ le-ltb e d.end.0 (omega arith))
    (eq-or-ne n 0)

not-before : (d : DelaySegment) (n s : ℕ) → d.start.0 ≤ s → belongs 2 s d n ≡ false → d.end.0 ≤ s
not-before d n s low f =
    ⊎_elim
    (λ (z : d.end.0 ≤ s). z)
    (λ (z : s < d.end.0). absurd (no_both (belongs-inside 2 s d low n z) f))
    (le-or-lt d.end.0 s)

-- going on from the start's segment finds the same for a later end
pub onward-same : (b : ℕ) (l : List DelaySegment) (a s e : ℕ) → Covers a b l → a ≤ s → s ≤ e → from_date 2 (from_date 2 l s) e ≡ from_date 2 l e
unfolding from_date
onward-same b [] a s e c low h = refl
onward-same b (d ∷ l) a s e c low h =
    pick-keeps (λ (k : List DelaySegment). from_date 2 k e ≡ from_date 2 (d ∷ l) e) (belongs 2 s d (length l)) (d ∷ l) (from_date 2 l s)
    (λ z. refl)
    (λ z.
    let start = spans-start delay_span b d l a c in
    let gone : belongs 2 e d (length l) ≡ false = still-past d (length l) s e (omega (arith, start)) h z in
    let late : d.end.0 ≤ s = not-before d (length l) s (omega (arith, start)) z in
    onward-same b l d.end.0 s e (spans-rest delay_span b d l a c) late h ∙ sym (from_on 2 d l e gone))

-- what is answered with a send interval of the window, by rule 2
pub received : (rule : ℕ) → rule ≡ 2 → (w : Interval) (l : List DelaySegment) → Covers w.start.0 w.end.0 l → w.start.0 < w.end.0
    → (send : Interval) → w.start.0 ≤ send.start.0 → send.start.0 ≤ send.end.0 → send.end.0 ≤ w.end.0
    → Received w.end.0 l (answer_with (delays_of rule l) send)
received rule two w l c some send low h high =
    let s = lies-some w.end.0 send.start.0 l w.start.0 c some low (omega arith) in
    let e = lies-some w.end.0 send.end.0 l w.start.0 c some (omega arith) high in
    let delays : delays_of rule l send.start.0 send.end.0 ≡ Some (record { first = (get_or l s.at zero_delay).delay; last = (get_or l e.at zero_delay).delay }) =
    ap (λ (n : ℕ). delays_of n l send.start.0 send.end.0) two ∙ lies-delays w.end.0 l w.start.0 c send.start.0 send.end.0 s.at e.at s.is e.is in
    rw delays
    (record {
      first = s.at;
      last = e.at;
      starts = s.is;
      ends = e.is;
      order = lies-order w.end.0 l w.start.0 c send.start.0 send.end.0 s.at e.at h s.is e.is;
      start = refl;
      end = refl;
    })
