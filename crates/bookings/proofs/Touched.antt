-- What a booking leaves of a list whose segments follow each other: those before and after the touched ones stay, and only the first and the last touched one leave a part.
use Prim.Native.Nat.{ℕ, zero, suc, ◌+◌, ◌-◌, ◌<◌, ◌≤◌}
use mathlib.Core.Path.{◌≡◌, refl, sym, ap, ◌∙◌}
use mathlib.Core.List.{List, [], ◌∷◌, ◌++◌, map, append_assoc, append-nil}
use mathlib.Core.Logic.{⊎_elim}
use native.Mathlib.Omega.{arith}
use lib.ListN.{length, take, drop, get_or, length-take, length-drop, take-append-drop}
use lib.Seq.{get_or-take, get_or-drop, take-take, length-take-le}
use borrow.Author.Tests.{le-ltb}
use Rattle.units.proofs.Numbers.{le-or-lt}
use Rattle.units.proofs.Loop.{at_place}
use Rattle.bookings.specs.declared.BookingSegment.{BookingSegment}
use Rattle.bookings.specs.Cut.{before_of, sent_of, after_of, parts_of, set_of}
use Rattle.bookings.proofs.Forms.{parts-early, parts-late, parts-on}
use Rattle.bookings.specs.Granted.{zero_booking, Chain, Follows}
use Rattle.bookings.proofs.Places.{EndedIn, BegunIn}

chain-take : (n x : ℕ) (l : List BookingSegment) → Chain x l → Chain x (take n l)
unfolding Chain
chain-take zero x l q = tt
chain-take (suc n) x [] q = tt
chain-take (suc n) x (g ∷ l) q = (q.0, q.1, chain-take n g.end.0 l q.2)

chain-drop : (n x : ℕ) (l : List BookingSegment) → Chain x l → Follows (drop n l)
unfolding Chain
chain-drop zero x l q = record { from = x; chain = q }
chain-drop (suc n) x [] q = record { from = x; chain = tt }
chain-drop (suc n) x (g ∷ l) q = chain-drop n g.end.0 l q.2

module _ (s e w : ℕ) where
  set-append : (p q : List BookingSegment) → set_of s e w (p ++ q) ≡ set_of s e w p ++ set_of s e w q
  unfolding set_of
  set-append [] q = refl
  set-append (g ∷ p) q =
      ap (λ (k : List BookingSegment). parts_of s e w g ++ k) (set-append p q) ∙ sym (append_assoc (parts_of s e w g) (set_of s e w p) (set_of s e w q))

  -- a segment that stays
  set-stays : (g : BookingSegment) (l : List BookingSegment) → parts_of s e w g ≡ g ∷ [] → set_of s e w l ≡ l → set_of s e w (g ∷ l) ≡ g ∷ l
  unfolding set_of
  set-stays g l h k = ap (λ (m : List BookingSegment). m ++ set_of s e w l) h ∙ ap (λ (m : List BookingSegment). g ∷ m) k

  set-none : set_of s e w [] ≡ []
  unfolding set_of
  set-none = refl

  -- each ends by the send start
  set-early : (l : List BookingSegment) → ((i : ℕ) → i < length l → (get_or l i zero_booking).end.0 ≤ s) → set_of s e w l ≡ l
  set-early [] h = set-none
  set-early (g ∷ l) h = set-stays g l (parts-early s e w g (h 0 (omega arith))) (set-early l (λ i k. h (suc i) (omega arith)))

  parts_from : (g : BookingSegment) → e ≤ g.start.0 → parts_of s e w g ≡ g ∷ []
  parts_from g h = ⊎_elim (λ k. parts-early s e w g k) (λ k. parts-late s e w g k h) (le-or-lt g.end.0 s)

  -- the first starts at the send end or later, and so each does
  set-late : (l : List BookingSegment) (x : ℕ) → Chain x l → e ≤ x → set_of s e w l ≡ l
  unfolding Chain
  set-late [] x q h = set-none
  set-late (g ∷ l) x q h =
      set-stays g l (parts_from g (omega (arith, q.0))) (set-late l g.end.0 q.2 (omega (arith, q.0, q.1)))

  set-from : (l : List BookingSegment) → Follows l → (0 < length l → e ≤ (get_or l 0 zero_booking).start.0) → set_of s e w l ≡ l
  unfolding Chain
  set-from [] q h = set-none
  set-from (g ∷ l) q h = set-late (g ∷ l) q.from q.chain (omega (arith, h (omega arith), q.chain.0))

  none_before : (g : BookingSegment) → s ≤ g.start.0 → before_of s g ≡ []
  none_before g h = rw (le-ltb _ _ h)

  none_after : (g : BookingSegment) → g.end.0 ≤ e → after_of e g ≡ []
  none_after g h = rw (le-ltb _ _ h)

  -- each is touched: every other than the first starts after the send start, every other than the last ends before the send end
  set-touched : (g : BookingSegment) (l : List BookingSegment) (x : ℕ) → Chain x (g ∷ l) → s < g.end.0
      → ((i : ℕ) → i < length (g ∷ l) → (get_or (g ∷ l) i zero_booking).start.0 < e)
      → set_of s e w (g ∷ l) ≡ before_of s g ++ (map (sent_of s e w) (g ∷ l) ++ after_of e (get_or (g ∷ l) (length l) zero_booking))
  unfolding set_of Chain
  set-touched g [] x q h k = append-nil (parts_of s e w g) ∙ parts-on s e w g h (k 0 (omega arith))
  set-touched g (a ∷ l) x q h k =
      let next = q.2 in
      let last = get_or (a ∷ l) (length l) zero_booking in
      let until : a.start.0 < e = k 1 (omega arith) in
      let rest : set_of s e w (a ∷ l) ≡ map (sent_of s e w) (a ∷ l) ++ after_of e last =
      set-touched a l g.end.0 next (omega (arith, next.0, next.1)) (λ i lt. k (suc i) (omega arith))
      ∙ ap (λ (m : List BookingSegment). m ++ (map (sent_of s e w) (a ∷ l) ++ after_of e last)) (none_before a (omega (arith, next.0))) in
      let here : parts_of s e w g ≡ before_of s g ++ (sent_of s e w g ∷ []) =
      parts-on s e w g h (k 0 (omega arith))
      ∙ ap (λ (m : List BookingSegment). before_of s g ++ (sent_of s e w g ∷ m)) (none_after g (omega (arith, next.0, until))) in
      ap (λ (m : List BookingSegment). m ++ set_of s e w (a ∷ l)) here
      ∙ ap (λ (m : List BookingSegment). (before_of s g ++ (sent_of s e w g ∷ [])) ++ m) rest
      ∙ append_assoc (before_of s g) (sent_of s e w g ∷ []) (map (sent_of s e w) (a ∷ l) ++ after_of e last)

-- Of the first n, those before place a end by the send start, and those from a to b start before the send end.
module _ (s e w : ℕ) (l : List BookingSegment) (n a b : ℕ) (size : n ≤ length l) (follows : Follows (take n l)) (p : EndedIn l n s a) (q : BegunIn l n a e b) where
  stay-before : set_of s e w (take a l) ≡ take a l
  stay-before =
      let len : length (take a l) ≡ a = length-take-le a l (omega (arith, p.low)) in
      set-early s e w (take a l)
      (λ (i : ℕ) (h : i < length (take a l)). let lt : i < a = omega arith in rw (get_or-take a l i zero_booking lt) (omega (arith, p.before i (omega arith) lt)))

  stay-after : set_of s e w (drop b (take n l)) ≡ drop b (take n l)
  stay-after =
      let len : length (drop b (take n l)) ≡ n - b = simp (length-drop, length-take) (omega arith) in
      set-from s e w (drop b (take n l)) (chain-drop b follows.from (take n l) follows.chain)
      (λ (h : 0 < length (drop b (take n l))). let lt : b < n = omega arith in rw (at_place l n b zero_booking size lt) (q.here lt))

  -- the first b, and those from b on
  apart : set_of s e w (take n l) ≡ set_of s e w (take b l) ++ drop b (take n l)
  apart =
      ap (set_of s e w) (sym (take-append-drop b (take n l)) ∙ ap (λ (k : List BookingSegment). k ++ drop b (take n l)) (take-take b n l q.low))
      ∙ set-append s e w (take b l) (drop b (take n l))
      ∙ ap (λ (k : List BookingSegment). set_of s e w (take b l) ++ k) stay-after

  -- none is touched
  pub untouched : b ≤ a → set_of s e w (take n l) ≡ take n l
  untouched h =
      let is : b ≡ a = omega (arith, q.high) in
      apart
      ∙ ap (λ (i : ℕ). set_of s e w (take i l) ++ drop b (take n l)) is
      ∙ ap (λ (k : List BookingSegment). k ++ drop b (take n l)) (stay-before ∙ ap (λ (i : ℕ). take i l) (sym is) ∙ sym (take-take b n l q.low))
      ∙ take-append-drop b (take n l)

  -- some are
  module _ (lt : a < b) where
    abbrev first : BookingSegment
    first = get_or l a zero_booking

    abbrev last : BookingSegment
    last = get_or l (b - 1) zero_booking

    abbrev others : List BookingSegment
    others = drop (a + 1) (take b l)

    some : drop a (take b l) ≡ first ∷ others
    some = at_place l b a zero_booking (omega (arith, q.low)) lt

    others-length : length others ≡ b - (a + 1)
    others-length = let low = q.low in simp (length-drop, length-take) (omega arith)

    some_at : (i : ℕ) → i < b - a → get_or (first ∷ others) i zero_booking ≡ get_or l (a + i) zero_booking
    some_at i h =
        let low : a + i < b = omega arith in
        ap (λ (k : List BookingSegment). get_or k i zero_booking) (sym some) ∙ get_or-drop a (take b l) i zero_booking ∙ get_or-take b l (a + i) zero_booking low

    some-follow : Follows (first ∷ others)
    some-follow =
        let c : Chain follows.from (take b l) = rw (← take-take b n l q.low) (chain-take b follows.from (take n l) follows.chain) in
        rw (← some) (chain-drop a follows.from (take b l) c)

    middle : set_of s e w (drop a (take b l)) ≡ before_of s first ++ (map (sent_of s e w) (drop a (take b l)) ++ after_of e last)
    middle =
        let at : get_or (first ∷ others) (length others) zero_booking ≡ last =
        some_at (length others) (omega (arith, others-length))
        ∙ ap (λ (i : ℕ). get_or l i zero_booking) (let i : a + length others ≡ b - 1 = omega (arith, others-length) in i) in
        rw (some, ← at)
        (set-touched s e w first others some-follow.from some-follow.chain (omega (arith, p.here (omega (arith, q.low))))
        (λ (i : ℕ) (h : i < length (first ∷ others)).
        let k : i < b - a = omega (arith, others-length) in
        rw (some_at i k) (q.before (a + i) (omega arith) (omega arith))))

    pub touched : set_of s e w (take n l)
        ≡ take a l ++ (before_of s first ++ (map (sent_of s e w) (drop a (take b l)) ++ (after_of e last ++ drop b (take n l))))
    touched =
        let front : take b l ≡ take a l ++ drop a (take b l) =
        sym (take-append-drop a (take b l)) ∙ ap (λ (k : List BookingSegment). k ++ drop a (take b l)) (take-take a b l (omega arith)) in
        let whole : set_of s e w (take b l) ≡ take a l ++ (before_of s first ++ (map (sent_of s e w) (drop a (take b l)) ++ after_of e last)) =
        ap (set_of s e w) front
        ∙ set-append s e w (take a l) (drop a (take b l))
        ∙ ap (λ (k : List BookingSegment). k ++ set_of s e w (drop a (take b l))) stay-before
        ∙ ap (λ (k : List BookingSegment). take a l ++ k) middle in
        apart
        ∙ ap (λ (k : List BookingSegment). k ++ drop b (take n l)) whole
        ∙ rw (append_assoc, append_assoc, append_assoc)
