-- `set`: the array that it leaves, its count and its number are those of the definition.
use Prim.Native.Nat.{ℕ, zero, suc, ◌+◌, ◌-◌, ◌<◌, ◌≤◌}
use mathlib.Core.Bool.{Bool, true, false}
use mathlib.Core.Path.{◌≡◌, refl, sym, ap, ◌∙◌}
use mathlib.Core.List.{List, [], ◌∷◌, ◌++◌, map, append_assoc}
use mathlib.Core.Logic.{⊎_elim, ◌⊎◌, inl, inr}
use native.Mathlib.Omega.{arith}
use lib.ListN.{length, take, drop, get_or, replicate, length-take, length-drop, length-append, length-map}
use lib.Seq.{drop-drop, length-take-le}
use borrow.Author.Tests.{lt-ltb, le-ltb, eqb-true}
use mir.Val.{bool_byte}
use Rattle.std.specs.Prelude.{Ok, Err}
use Rattle.std.specs.List.{copy_within}
use Rattle.std.specs.Ordering.{nat_cmp, is_lt}
use Rattle.std.proofs.lemmas.List.{drop-take}
use Rattle.units.specs.Limits.{listed_max}
use Rattle.units.specs.declared.refusal.Refusal.TheVariants.{Full}
use Rattle.units.specs.Logic.{all_of}
use Rattle.units.specs.Arrays.{padded}
use Rattle.units.proofs.Logic.{both-fst, both-snd, all_tail}
use Rattle.units.proofs.Arrays.{drop-padded}
use Rattle.units.proofs.Padded.{padded-is}
use Rattle.units.proofs.Compare.{lt-yes, lt-not}
use Rattle.bookings.specs.declared.BookingSegment.{BookingSegment}
use Rattle.bookings.specs.declared.Bookings.{Bookings}
use Rattle.bookings.specs.Listed.{no_booking}
use Rattle.bookings.specs.Cut.{segment, before_of, sent_of, after_of, set_of, laid_of, bookings_in, set_bookings}
use Rattle.bookings.proofs.CutLoop.{set_full, set-fits}
use Rattle.bookings.specs.Granted.{zero_booking, Follows, placed}
use Rattle.bookings.proofs.Places.{EndedIn, BegunIn}
use Rattle.bookings.proofs.Moved.{moved_list}
use Rattle.bookings.proofs.Touched.{untouched, touched}
use Rattle.bookings.proofs.Laid.{Stored, laid}

-- a part is there, and its number 1, or it is not, and its number 0
abbrev pub Counted : Type 0 → Type 0 → ℕ → Type 0
Counted P Q h = (P × (h ≡ 1)) ⊎ (Q × (h ≡ 0))

pub counted-few : {P Q : Type 0} (h : ℕ) → Counted P Q h → h ≤ 1
counted-few h q = ⊎_elim (λ z. omega (arith, z.1)) (λ z. omega (arith, z.1)) q

-- by a test and its number
pub counted-lt : (a b : ℕ) (r : Bool) (h : ℕ) → r ≡ is_lt (nat_cmp a b) → h ≡ bool_byte r → Counted (a < b) (b ≤ a) h
counted-lt a b true h e k = inl (lt-yes a b true e refl, k)
counted-lt a b false h e k = inr (lt-not a b false e refl, k)

-- those from b on, copied up by so many
pub shift-is : (l : List BookingSegment) (n b h k : ℕ) → b ≤ n → copy_within l b n (b + h + k) ≡ take (b + (h + k)) l ++ (drop b (take n l) ++ drop (n + (h + k)) l)
shift-is l n b h k le =
    let all : b + (n - b) ≡ n = omega arith in
    let part : drop b (take n l) ≡ take (n - b) (drop b l) = ap (λ (m : ℕ). drop b (take m l)) (sym all) ∙ drop-take b (n - b) l in
    let to : b + h + k ≡ b + (h + k) = omega arith in
    let past : b + (h + k) + (n - b) ≡ n + (h + k) = omega arith in
    rw (part, to, past, append_assoc)

-- the parts before and after, by their numbers
module _ (g : BookingSegment) (t h : ℕ) where
  before-is : Counted (g.start.0 < t) (t ≤ g.start.0) h → before_of t g ≡ take h (segment g.start.0 t g.level.0 ∷ [])
  before-is q = ⊎_elim (λ z. rw (lt-ltb _ _ z.0, z.1)) (λ z. rw (le-ltb _ _ z.0, z.1)) q

  after_is : Counted (t < g.end.0) (g.end.0 ≤ t) h → after_of t g ≡ take h (segment t g.end.0 g.level.0 ∷ [])
  after_is q = ⊎_elim (λ z. rw (lt-ltb _ _ z.0, z.1)) (λ z. rw (le-ltb _ _ z.0, z.1)) q

-- an unused place is zero
only_zero : (g : BookingSegment) → no_booking g ≡ true → g ≡ zero_booking
unfolding no_booking
only_zero g h =
    let k = both-snd _ _ h in
    ap (λ (n : ℕ). segment n g.end.0 g.level.0) (eqb-true _ _ (both-fst _ _ h))
    ∙ ap (λ (n : ℕ). segment 0 n g.level.0) (eqb-true _ _ (both-fst _ _ k))
    ∙ ap (λ (n : ℕ). segment 0 0 n) (eqb-true _ _ (both-snd _ _ k))

all_drop : {A : Type 0} (p : A → Bool) (n : ℕ) (l : List A) → all_of p l ≡ true → all_of p (drop n l) ≡ true
all_drop p zero l h = h
all_drop p (suc n) [] h = h
all_drop p (suc n) (a ∷ l) h = all_drop p n l (all_tail p a l h)

module _ (s e w : ℕ) (l : List BookingSegment) (n a b : ℕ) (size : length l ≡ listed_max) (le : n ≤ listed_max) (follows : Follows (take n l)) (unused : all_of no_booking (drop n l) ≡ true)
    (p : EndedIn l n s a) (q : BegunIn l n a e b) where
  abbrev old : Bookings
  old = bookings_in l n

  len : length (take n l) ≡ n
  len = length-take-le n l (omega arith)

  -- nothing is touched
  pub set-nothing : b ≤ a → placed old (Ok tt) ≡ set_bookings old s e w
  set-nothing h =
      let stays = untouched s e w l n a b (omega arith) follows p q h in
      let count : n ≡ length (set_of s e w (take n l)) = sym (ap (λ (k : List BookingSegment). length k) stays ∙ len) in
      set-fits old s e w old (omega (arith, count))
      (ap (λ (m : List BookingSegment). bookings_in m n) (padded-is no_booking zero_booking only_zero listed_max n l size le unused ∙ ap laid_of (sym stays))
      ∙ ap (λ (m : ℕ). bookings_in (laid_of (set_of s e w (take n l))) m) count)

  -- some are: the first and the last, as they were read, and so many parts before and after
  module _ (lt : a < b) (first last : BookingSegment) (is-first : first ≡ get_or l a zero_booking) (is_last : last ≡ get_or l (b - 1) zero_booking) (h k : ℕ)
      (ch : Counted (first.start.0 < s) (s ≤ first.start.0) h) (ck : Counted (e < last.end.0) (last.end.0 ≤ e) k) where
    abbrev x : BookingSegment
    x = segment first.start.0 s first.level.0

    abbrev y : BookingSegment
    y = segment e last.end.0 last.level.0

    abbrev sent : List BookingSegment
    sent = map (sent_of s e w) (drop a (take b l))

    -- the list with the booking
    list-is : set_of s e w (take n l) ≡ take a l ++ (take h (x ∷ []) ++ (sent ++ (take k (y ∷ []) ++ drop b (take n l))))
    list-is =
        touched s e w l n a b (omega arith) follows p q lt
        ∙ ap (λ (g : BookingSegment). take a l ++ (before_of s g ++ (sent ++ (after_of e (get_or l (b - 1) zero_booking) ++ drop b (take n l))))) (sym is-first)
        ∙ ap (λ (g : BookingSegment). take a l ++ (before_of s first ++ (sent ++ (after_of e g ++ drop b (take n l))))) (sym is_last)
        ∙ ap (λ (m : List BookingSegment). take a l ++ (m ++ (sent ++ (after_of e last ++ drop b (take n l))))) (before-is first s h ch)
        ∙ ap (λ (m : List BookingSegment). take a l ++ (take h (x ∷ []) ++ (sent ++ (m ++ drop b (take n l))))) (after_is last e k ck)

    -- how many segments it leaves
    grown : n + (h + k) ≡ length (set_of s e w (take n l))
    grown =
        let low = q.low in
        let la : length (take a l) ≡ a = length-take-le a l (omega arith) in
        let lh : length (take h (x ∷ [])) ≡ h = length-take-le h (x ∷ []) (counted-few h ch) in
        let ls : length sent ≡ b - a = simp (length-map, length-drop, length-take) (omega arith) in
        let lk : length (take k (y ∷ [])) ≡ k = length-take-le k (y ∷ []) (counted-few k ck) in
        let lq : length (drop b (take n l)) ≡ n - b = simp (length-drop, len) in
        rw (list-is, length-append, length-append, length-append, length-append, la, lh, ls, lk, lq) (omega arith)

    pub set-many : listed_max < n + (h + k) → placed old (Err Full) ≡ set_bookings old s e w
    set-many m = set_full old s e w Full (omega (arith, grown)) refl

    module _ (fits : n + (h + k) ≤ listed_max) where
      -- the places past them are zero
      past : drop (n + (h + k)) l ≡ replicate (listed_max - length (set_of s e w (take n l))) zero_booking
      past =
          let none : all_of no_booking (drop (n + (h + k)) l) ≡ true = rw (← drop-drop (h + k) n l) (all_drop no_booking (h + k) (drop n l) unused) in
          let m : length (take (n + (h + k)) l) ≡ n + (h + k) = length-take-le (n + (h + k)) l (omega arith) in
          ap (drop (n + (h + k))) (padded-is no_booking zero_booking only_zero listed_max (n + (h + k)) l size fits none)
          ∙ drop-padded listed_max zero_booking (take (n + (h + k)) l) (n + (h + k)) m
          ∙ ap (λ (i : ℕ). replicate (listed_max - i) zero_booking) grown

      -- the array after the moves and the writes
      module _ (one two three four : List BookingSegment) (w-shift : one ≡ take (b + (h + k)) l ++ (drop b (take n l) ++ drop (n + (h + k)) l))
          (w-set : two ≡ moved_list (sent_of s e w) one b h a) (w-after : Stored k two (b + h) y three) (w-before : Stored h three a x four) where
        array-is : four ≡ laid_of (set_of s e w (take n l))
        unfolding padded
        array-is =
            laid (sent_of s e w) l n a b h k (counted-few h ch) (counted-few k ck) lt q.low (omega arith) x y one two three four w-shift w-set w-after w-before
            ∙ ap (λ (m : List BookingSegment). take a l ++ (take h (x ∷ []) ++ (sent ++ (take k (y ∷ []) ++ (drop b (take n l) ++ m))))) past
            ∙ rw (list-is, append_assoc, append_assoc, append_assoc, append_assoc)

        pub set-some : (m : ℕ) → m ≡ n + (h + k) → placed (bookings_in four m) (Ok tt) ≡ set_bookings old s e w
        set-some m is =
            set-fits old s e w (bookings_in four m) (omega (arith, grown))
            (ap (λ (x : List BookingSegment). bookings_in x m) array-is ∙ ap (λ (i : ℕ). bookings_in (laid_of (set_of s e w (take n l))) i) (is ∙ grown))
