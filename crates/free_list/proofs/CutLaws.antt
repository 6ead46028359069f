-- What a cut keeps: the list's rules, and the ticks that it shares with no other interval.
use Prim.Native.Nat.{ℕ, zero, suc, ◌-◌, ◌≤◌}
use mathlib.Core.Path.{◌≡◌}
use mathlib.Core.List.{List, [], ◌∷◌}
use mathlib.Core.Logic.{⊎_elim}
use native.Mathlib.Omega.{arith}
use lib.ListN.{length, get_or}
use borrow.Author.Tests.{eq-eqb, ne_eqb}
use Rattle.units.proofs.Numbers.{eq-or-ne}
use Rattle.segmentation.specs.declared.VolumeSegment.{VolumeSegment}
use Rattle.segmentation.specs.Capacity.{capacity}
use Rattle.segmentation.proofs.Capacity.{capacity-split}
use Rattle.segmentation.proofs.EndLaws.{Ends, near_first}
use Rattle.contact.specs.Segments.{zero_volume}
use Rattle.free_list.specs.Instants.{Apart, Clear}
use Rattle.free_list.specs.Cut.{rest_volume, rest_of, stretch_of, left_of, cut_of}
use Rattle.free_list.proofs.ListedLaws.{Listed, listed-sooner}
use Rattle.free_list.proofs.Offered.{AtPlace, place-get, listed_at, Here, Offered}

-- The three ways of a cut: at the segment's start, of no length, in two.
module _ (k : ℕ) (l : List VolumeSegment) (g : VolumeSegment) (s e v : ℕ) (f : List VolumeSegment) where
  pub left-start : g.start.0 ≡ s → left_of k l g s e v f ≡ rest_of k l g e v ∷ f
  unfolding left_of
  left-start h = rw (eq-eqb g.start.0 s h)

  module _ (h : g.start.0 ≡ s → ⊥) where
    pub left-flat : s ≡ e → left_of k l g s e v f ≡ stretch_of l g.start.0 s ∷ f
    unfolding left_of
    left-flat q = rw (ne_eqb g.start.0 s h, eq-eqb s e q)

    pub left-two : (s ≡ e → ⊥) → left_of k l g s e v f ≡ stretch_of l g.start.0 s ∷ (stretch_of l e g.end.0 ∷ f)
    unfolding left_of
    left-two q = rw (ne_eqb g.start.0 s h, ne_eqb s e q)

  pub left-cases : (P : List VolumeSegment → Type 0)
      → (g.start.0 ≡ s → P (rest_of k l g e v ∷ f))
      → ((g.start.0 ≡ s → ⊥) → s ≡ e → P (stretch_of l g.start.0 s ∷ f))
      → ((g.start.0 ≡ s → ⊥) → (s ≡ e → ⊥) → P (stretch_of l g.start.0 s ∷ (stretch_of l e g.end.0 ∷ f)))
      → P (left_of k l g s e v f)
  left-cases P f1 f2 f3 =
      ⊎_elim
      (λ (h : g.start.0 ≡ s). rw (left-start h) (f1 h))
      (λ (h : g.start.0 ≡ s → ⊥). ⊎_elim (λ (q : s ≡ e). rw (left-flat h q) (f2 h q)) (λ (q : s ≡ e → ⊥). rw (left-two h q) (f3 h q)) (eq-or-ne s e))
      (eq-or-ne g.start.0 s)

-- what a booking at the segment's start lists, by edition
pub rest-cases : (k : ℕ) (l : List VolumeSegment) (g : VolumeSegment) (e v : ℕ) (P : ℕ → Type 0)
    → (k ≡ 2 → P (capacity l e g.end.0)) → ((k ≡ 2 → ⊥) → P (g.volume.0 - v)) → P (rest_volume k l g e v)
rest-cases k l g e v P f1 f2 =
    ⊎_elim (λ (two : k ≡ 2). rw (eq-eqb k 2 two) (f1 two)) (λ (one : k ≡ 2 → ⊥). rw (ne_eqb k 2 one) (f2 one)) (eq-or-ne k 2)

module _ (k : ℕ) (l : List VolumeSegment) (r hi s e v : ℕ) where
  left-listed : (g : VolumeSegment) (f : List VolumeSegment) (n : ℕ) → Listed l n hi (g ∷ f) → Here k l r g s e v → Listed l n hi (left_of k l g s e v f)
  unfolding Listed
  left-listed g f n q h =
      let from : g.start.0 ≤ s = h.from in
      let forth : s ≤ e = h.ends.forth in
      let by : e ≤ g.end.0 = h.ends.by in
      let n1 : n ≤ g.start.0 = q.0 in
      let n2 : g.end.0 ≤ hi = q.2 in
      let n3 : g.volume.0 ≤ capacity l g.start.0 g.end.0 = q.3 in
      left-cases k l g s e v f (λ x. Listed l n hi x)
      (λ (z : g.start.0 ≡ s).
      let m : g.volume.0 ≤ capacity l s g.end.0 = rw z at n3 in
      let low : rest_volume k l g e v ≤ capacity l e g.end.0 =
      rest-cases k l g e v (λ x. x ≤ capacity l e g.end.0) (λ two. omega arith)
      (λ one. omega (arith, capacity-split l s e g.end.0 forth by, near_first k r _ v one h.ends.near)) in
      (omega arith, by, n2, low, q.4))
      (λ (z : g.start.0 ≡ s → ⊥) (y : s ≡ e).
      (n1, from, omega arith, omega arith, listed-sooner l (suc g.end.0) (suc s) hi f (omega arith) q.4))
      (λ (z : g.start.0 ≡ s → ⊥) (y : s ≡ e → ⊥).
      (n1, from, omega arith, omega arith, (omega arith, by, n2, omega arith, q.4)))

  -- the list keeps its rules
  pub cut-listed : (f : List VolumeSegment) (n i : ℕ) → Listed l n hi f → Offered k l r f i s e v → Listed l n hi (cut_of k l f i s e v)
  unfolding Listed AtPlace cut_of
  cut-listed [] n i q h = absurd h
  cut-listed (g ∷ f) n zero q h = left-listed g f n q h
  cut-listed (g ∷ f) n (suc i) q h = (q.0, q.1, q.2, q.3, cut-listed f (suc g.end.0) i q.4 h)

  left-some : (g : VolumeSegment) (f : List VolumeSegment) → 1 ≤ length (left_of k l g s e v f)
  left-some g f = left-cases k l g s e v f (λ x. 1 ≤ length x) (λ z. omega arith) (λ z y. omega arith) (λ z y. omega arith)

  -- a list that is cut is not empty
  pub cut-some : (f : List VolumeSegment) (i : ℕ) → 1 ≤ length f → 1 ≤ length (cut_of k l f i s e v)
  unfolding cut_of
  cut-some [] i h = h
  cut-some (g ∷ f) zero h = left-some g f
  cut-some (g ∷ f) (suc i) h = omega arith

  -- an interval clear of the list is apart from what is offered
  pub clear_apart : (a b : ℕ) (f : List VolumeSegment) (i : ℕ) → Clear a b f → Offered k l r f i s e v → Apart s e a b
  unfolding Clear AtPlace
  clear_apart a b [] i c h = absurd h
  clear_apart a b (g ∷ f) zero c h = λ t p q m n. c.0 t m n (omega (arith, h.from)) (omega (arith, h.ends.by))
  clear_apart a b (g ∷ f) (suc i) c h = clear_apart a b f i c.1 h

  left-clear : (a b : ℕ) (g : VolumeSegment) (f : List VolumeSegment) → Clear a b (g ∷ f) → Here k l r g s e v → Clear a b (left_of k l g s e v f)
  unfolding Clear
  left-clear a b g f c h =
      let from : g.start.0 ≤ s = h.from in
      let forth : s ≤ e = h.ends.forth in
      let by : e ≤ g.end.0 = h.ends.by in
      left-cases k l g s e v f (λ x. Clear a b x)
      (λ z. (λ t p q m n. c.0 t p q (omega arith) n, c.1))
      (λ z y. (λ t p q m n. c.0 t p q m (omega arith), c.1))
      (λ z y. (λ t p q m n. c.0 t p q m (omega arith), (λ t p q m n. c.0 t p q (omega arith) n, c.1)))

  -- and stays clear of it
  pub cut-clear : (a b : ℕ) (f : List VolumeSegment) (i : ℕ) → Clear a b f → Offered k l r f i s e v → Clear a b (cut_of k l f i s e v)
  unfolding Clear AtPlace cut_of
  cut-clear a b [] i c h = absurd h
  cut-clear a b (g ∷ f) zero c h = left-clear a b g f c h
  cut-clear a b (g ∷ f) (suc i) c h = (c.0, cut-clear a b f i c.1 h)

  -- what lies past the interval is clear of it
  listed-clear : (f : List VolumeSegment) (n : ℕ) → Listed l n hi f → e ≤ n → Clear s e f
  unfolding Listed Clear
  listed-clear [] n q h = tt
  listed-clear (g ∷ f) n q h =
      (λ t x y m w. omega (arith, q.0), listed-clear f (suc g.end.0) q.4 (omega (arith, q.0, q.1)))

  left-own : (g : VolumeSegment) (f : List VolumeSegment) (n : ℕ) → Listed l n hi (g ∷ f) → Here k l r g s e v → Clear s e (left_of k l g s e v f)
  unfolding Listed Clear
  left-own g f n q h =
      let by : e ≤ g.end.0 = h.ends.by in
      let rest : Clear s e f = listed-clear f (suc g.end.0) q.4 (omega arith) in
      left-cases k l g s e v f (λ x. Clear s e x)
      (λ z. (λ t x y m w. omega arith, rest))
      (λ z w. (λ t x y m w. omega arith, rest))
      (λ z w. (λ t x y m w. omega arith, (λ t x y m w. omega arith, rest)))

  -- the send interval is in the window
  pub offered-inside : (f : List VolumeSegment) (n i : ℕ) → Listed l n hi f → Offered k l r f i s e v → (n ≤ s) × (e ≤ hi)
  offered-inside f n i q h =
      place-get (λ g. (n ≤ s) × (e ≤ hi)) f i
      (listed_at (λ g. Here k l r g s e v) (λ g. (n ≤ s) × (e ≤ hi)) l n hi f i (λ g a b p. (omega (arith, p.from), omega (arith, p.ends.by))) q h)

  pub offered-from : (f : List VolumeSegment) (n i : ℕ) → Listed l n hi f → Offered k l r f i s e v → n ≤ s
  offered-from f n i q h = (offered-inside f n i q h).0

  pub offered-by : (f : List VolumeSegment) (n i : ℕ) → Listed l n hi f → Offered k l r f i s e v → e ≤ hi
  offered-by f n i q h = (offered-inside f n i q h).1

  -- the list that is left is clear of what was booked
  pub cut-own : (f : List VolumeSegment) (n i : ℕ) → Listed l n hi f → Offered k l r f i s e v → Clear s e (cut_of k l f i s e v)
  unfolding Listed AtPlace cut_of Clear
  cut-own [] n i q h = absurd h
  cut-own (g ∷ f) n zero q h = left-own g f n q h
  cut-own (g ∷ f) n (suc i) q h =
      let past : suc g.end.0 ≤ s = offered-from f (suc g.end.0) i q.4 h in
      (λ t x y m j. omega arith, cut-own f (suc g.end.0) i q.4 h)

pub offered-ends : (k : ℕ) (l : List VolumeSegment) (r s e v : ℕ) (f : List VolumeSegment) (i : ℕ) → Offered k l r f i s e v → (d : ℕ) × Ends k l r s v d e
offered-ends k l r s e v f i h =
    ((get_or f i zero_volume).end.0, (place-get (λ g. Here k l r g s e v) f i h).ends)
