-- An offer stands at a segment of the list, not before the asked time; the laws of the end rule bound its room and its end.
use Rattle.std.specs.Prelude.{Option, Some, None}
use Prim.Native.Nat.{ℕ, zero, suc, ◌<◌, ◌≤◌, max}
use mathlib.Core.Bool.{Bool, true, false}
use mathlib.Core.Path.{◌≡◌, refl, ap}
use mathlib.Core.List.{List, [], ◌∷◌}
use native.Mathlib.Omega.{arith}
use lib.Dec.{leb, ltb}
use lib.ListN.{length, get_or}
use borrow.Author.Tests.{leb-true, ltb-false}
use Rattle.units.specs.declared.Date.{Date}
use Rattle.units.specs.declared.Interval.{Interval}
use Rattle.units.specs.Logic.{pick}
use Rattle.units.specs.Answer.{interval}
use Rattle.segmentation.specs.declared.VolumeSegment.{VolumeSegment}
use Rattle.segmentation.specs.Capacity.{top_of}
use Rattle.segmentation.specs.End.{end_of}
use Rattle.segmentation.proofs.EndLaws.{Ends, end-ends}
use Rattle.contact.specs.Segments.{zero_volume}
use Rattle.free_list.specs.declared.Fit.{Fit}
use Rattle.free_list.specs.Offer.{Rule, fit_at, up, or_else, further_of, offer_of}
use Rattle.free_list.proofs.ListedLaws.{Listed}

-- what holds of the segment at a place
unfoldable pub AtPlace : (VolumeSegment → Type 0) → List VolumeSegment → ℕ → Type 0
AtPlace P [] i = ⊥
AtPlace P (g ∷ f) zero = P g
AtPlace P (g ∷ f) (suc i) = AtPlace P f i

pub place-lt : (P : VolumeSegment → Type 0) (f : List VolumeSegment) (i : ℕ) → AtPlace P f i → i < length f
unfolding AtPlace
place-lt P [] i h = absurd h
place-lt P (g ∷ f) zero h = omega arith
place-lt P (g ∷ f) (suc i) h = let k = place-lt P f i h in omega arith

pub place-get : (P : VolumeSegment → Type 0) (f : List VolumeSegment) (i : ℕ) → AtPlace P f i → P (get_or f i zero_volume)
unfolding AtPlace
place-get P [] i h = absurd h
place-get P (g ∷ f) zero h = h
place-get P (g ∷ f) (suc i) h = place-get P f i h

-- a segment keeps the rules of the list that it is in
pub listed_at : (P Q : VolumeSegment → Type 0) (l : List VolumeSegment) (n hi : ℕ) (f : List VolumeSegment) (i : ℕ)
    → ((g : VolumeSegment) → n ≤ g.start.0 → g.end.0 ≤ hi → P g → Q g) → Listed l n hi f → AtPlace P f i → AtPlace Q f i
unfolding AtPlace Listed
listed_at P Q l n hi [] i k q h = h
listed_at P Q l n hi (g ∷ f) zero k q h = k g q.0 q.2 h
listed_at P Q l n hi (g ∷ f) (suc i) k q h =
    listed_at P Q l (suc g.end.0) hi f i (λ x a b p. k x (omega (arith, q.0, q.1)) b p) q.4 h

-- a segment is picked: it has the room, the send starts in it and not before the asked time, and the rule has this end
pub record Picked (E : Rule) (t v : ℕ) (send : Interval) (g : VolumeSegment) : Type 0 where
  pub from : g.start.0 ≤ send.start.0
  pub late : t ≤ send.start.0
  pub room : v ≤ g.volume.0
  pub ends : E send.start.0 v g.end.0 ≡ Some send.end

-- what is found, by its parts
place_of : Option Fit → ℕ
place_of (Some x) = x.place
place_of None = 0

send_of : Interval → Option Fit → Interval
send_of d (Some x) = x.send
send_of d None = d

pub fit-place : (i j : ℕ) (a b : Interval) → fit_at i a ≡ fit_at j b → i ≡ j
unfolding place_of
fit-place i j a b h = ap place_of h

pub fit-send : (i j : ℕ) (a b : Interval) → fit_at i a ≡ fit_at j b → a ≡ b
unfolding send_of
fit-send i j a b h = ap (send_of a) h

pub no-send : {i : ℕ} {send : Interval} → None ≡ fit_at i send → ⊥
no-send h = let z : ◌≡◌ {A = ℕ} 0 1 = cc in omega arith

-- what is found one place further on is found there
pub up_at : (P : VolumeSegment → Type 0) (send : Interval) (g : VolumeSegment) (f : List VolumeSegment) (i : ℕ) (o : Option Fit) → up o ≡ fit_at i send
    → ((j : ℕ) → o ≡ fit_at j send → AtPlace P f j) → AtPlace P (g ∷ f) i
unfolding AtPlace
up_at P send g f i (Some x) h k =
    let p : suc x.place ≡ i = fit-place _ _ _ _ h in
    rw (← p) (k x.place (ap (fit_at x.place) (fit-send _ _ _ _ h)))
up_at P send g f i None h k = absurd (no-send h)

module _ (E : Rule) (l : List VolumeSegment) (hi t v : ℕ) (send : Interval) where
  try-go : (g : VolumeSegment) (f : List VolumeSegment) (i s : ℕ) (o : Option Fit) → g.start.0 ≤ s → t ≤ s
      → (c : Bool) (x : Option Date) → leb v g.volume.0 ≡ c → E s v g.end.0 ≡ x
      → or_else (pick c x None) s o ≡ fit_at i send
      → (o ≡ fit_at i send → AtPlace (Picked E t v send) (g ∷ f) i) → AtPlace (Picked E t v send) (g ∷ f) i
  unfolding AtPlace
  try-go g f i s o st le true (Some x) p q h k =
      let e0 : 0 ≡ i = fit-place _ _ _ _ h in
      let e1 : interval s x.0 ≡ send = fit-send _ _ _ _ h in
      rw (← e0, ← e1) (record { from = st; late = le; room = leb-true _ _ p; ends = q })
  try-go g f i s o st le true None p q h k = k h
  try-go g f i s o st le false x p q h k = k h

  further-picked : (f : List VolumeSegment) (n i : ℕ) → Listed l n hi f → t ≤ n → further_of E f v ≡ fit_at i send → AtPlace (Picked E t v send) f i
  unfolding further_of Listed
  further-picked [] n i q le h = absurd (no-send h)
  further-picked (g ∷ f) n i q le h =
      try-go g f i g.start.0 (up (further_of E f v)) (omega arith) (omega (arith, q.0)) (leb v g.volume.0) (E g.start.0 v g.end.0) refl refl h
      (λ k. up_at (Picked E t v send) send g f i (further_of E f v) k (λ j z. further-picked f (suc g.end.0) j q.4 (omega (arith, q.0, q.1)) z))

  skip-go : (g : VolumeSegment) (f : List VolumeSegment) (n i : ℕ) (c : Bool) → ltb g.end.0 t ≡ c → Listed l n hi (g ∷ f)
      → ((j : ℕ) → offer_of E f t v ≡ fit_at j send → AtPlace (Picked E t v send) f j)
      → pick c (up (offer_of E f t v)) (or_else (pick (leb v g.volume.0) (E (max g.start.0 t) v g.end.0) None) (max g.start.0 t) (up (further_of E f v))) ≡ fit_at i send
      → AtPlace (Picked E t v send) (g ∷ f) i
  unfolding Listed
  skip-go g f n i true p q ih h = up_at (Picked E t v send) send g f i (offer_of E f t v) h ih
  skip-go g f n i false p q ih h =
      let late : t ≤ g.end.0 = ltb-false _ _ p in
      try-go g f i (max g.start.0 t) (up (further_of E f v)) (omega arith) (omega arith)
      (leb v g.volume.0) (E (max g.start.0 t) v g.end.0) refl refl h
      (λ k. up_at (Picked E t v send) send g f i (further_of E f v) k (λ j z. further-picked f (suc g.end.0) j q.4 (omega arith) z))

  pub offer-picked : (f : List VolumeSegment) (n i : ℕ) → Listed l n hi f → offer_of E f t v ≡ fit_at i send → AtPlace (Picked E t v send) f i
  unfolding offer_of
  offer-picked [] n i q h = absurd (no-send h)
  offer-picked (g ∷ f) n i q h =
      skip-go g f n i (ltb g.end.0 t) refl q (λ j z. offer-picked f (suc g.end.0) j (unfold Listed in q.4) z) h

  -- the send starts not before the asked time
  pub offer-after : (f : List VolumeSegment) (n i : ℕ) → Listed l n hi f → offer_of E f t v ≡ fit_at i send → t ≤ send.start.0
  offer-after f n i q h = (place-get (Picked E t v send) f i (offer-picked f n i q h)).late

-- the laws of an end rule from a date on: r is the highest rate
pub record Laws (k : ℕ) (E : Rule) (l : List VolumeSegment) (lo r : ℕ) : Type 0 where
  pub ends : (s v d : ℕ) (e : Date) → lo ≤ s → 0 < v → E s v d ≡ Some e → Ends k l r s v d e.0

-- the exact rule of each edition has them
pub exact-laws : (k : ℕ) (l : List VolumeSegment) (lo : ℕ) → Laws k (end_of k l) l lo (top_of l)
exact-laws k l lo = record { ends = λ s v d e h p z. end-ends l s v p k d e z }

-- the segment has the room, and the send interval is in it
pub record Here (k : ℕ) (l : List VolumeSegment) (r : ℕ) (g : VolumeSegment) (s e v : ℕ) : Type 0 where
  pub from : g.start.0 ≤ s
  pub room : v ≤ g.volume.0
  pub ends : Ends k l r s v g.end.0 e

abbrev pub Offered : ℕ → List VolumeSegment → ℕ → List VolumeSegment → ℕ → ℕ → ℕ → ℕ → Type 0
Offered k l r f i s e v = AtPlace (λ g. Here k l r g s e v) f i

pub offer-at : (k : ℕ) (E : Rule) (l : List VolumeSegment) (lo hi r t v : ℕ) (send : Interval) → Laws k E l lo r → 0 < v
    → (f : List VolumeSegment) (n i : ℕ) → Listed l n hi f → lo ≤ n → offer_of E f t v ≡ fit_at i send
    → Offered k l r f i send.start.0 send.end.0 v
offer-at k E l lo hi r t v send laws pos f n i q le h =
    listed_at (Picked E t v send) (λ g. Here k l r g send.start.0 send.end.0 v) l n hi f i
    (λ g a b p. record { from = p.from; room = p.room; ends = laws.ends _ _ _ _ (omega (arith, p.from)) pos p.ends })
    q (offer-picked E l hi t v send f n i q h)

-- the place is listed, and its segment makes the offer
pub offered-at : (k : ℕ) (l : List VolumeSegment) (r : ℕ) (f : List VolumeSegment) (i s e v : ℕ) → Offered k l r f i s e v
    → (i < length f) × (Here k l r (get_or f i zero_volume) s e v)
offered-at k l r f i s e v h = (place-lt (λ g. Here k l r g s e v) f i h, place-get (λ g. Here k l r g s e v) f i h)
