-- The loop that lays the booked list: what is listed so far, with what the others leave, is the whole; and the answer with it.
use Prim.Native.Nat.{ℕ, ◌+◌, ◌<◌, ◌≤◌}
use mathlib.Core.Path.{◌≡◌, refl, sym, ap, ◌∙◌}
use mathlib.Core.List.{List, [], ◌∷◌, ◌++◌, append_assoc, append-nil}
use native.Mathlib.Omega.{arith}
use lib.ListN.{length, drop, get_or, set, drop_of_length-le, length-append}
use borrow.Author.Tests.{le-leb, lt-leb}
use Rattle.std.specs.Prelude.{Ok, Err}
use Rattle.units.specs.Limits.{listed_max}
use Rattle.units.specs.declared.refusal.Refusal.{Refusal}
use Rattle.units.specs.declared.refusal.Refusal.TheVariants.{Full}
use Rattle.units.proofs.Arrays.{take-padded, padded-store}
use Rattle.units.proofs.Loop.{at-whole}
use Rattle.bookings.specs.declared.BookingSegment.{BookingSegment}
use Rattle.bookings.specs.declared.Bookings.{Bookings}
use Rattle.bookings.specs.declared.Parts.{Parts}
use Rattle.bookings.specs.Listed.{listed}
use Rattle.bookings.specs.Cut.{segment, parts_of, set_of, laid_of, list_in, set_bookings}
use Rattle.bookings.specs.Granted.{laid_parts, Tidy, Holds, Overflows, set_in}

pub listed_in : (f : List BookingSegment) → listed (list_in f) ≡ f
listed_in f = take-padded listed_max (segment 0 0 0) f (length f) refl

module _ (b x : Bookings) (f : List BookingSegment) (q : Holds b f x) where
  pub listed-holds : listed x ≡ listed b ++ f
  listed-holds = ap (λ (r : Bookings). listed r) q.is ∙ listed_in (listed b ++ f)

  pub tidy-holds : Tidy x
  tidy-holds =
      record { is = q.is ∙ ap list_in (sym listed-holds); few = omega (arith, q.few, ap (λ (l : List BookingSegment). length l) listed-holds) }

  -- and then others
  module _ (g : List BookingSegment) where
    again : listed x ++ g ≡ listed b ++ (f ++ g)
    again = ap (λ (l : List BookingSegment). l ++ g) listed-holds ∙ append_assoc (listed b) f g

    pub holds-both : (y : Bookings) → Holds x g y → Holds b (f ++ g) y
    holds-both y p = record { is = p.is ∙ ap list_in again; few = omega (arith, p.few, ap (λ (l : List BookingSegment). length l) again) }

    pub overflows-after : (e : Refusal) → Overflows x g e → Overflows b (f ++ g) e
    overflows-after e p = record { full = p.full; many = omega (arith, p.many, ap (λ (l : List BookingSegment). length l) again) }

-- where some have no room, they and others have none
pub overflows-more : (b : Bookings) (f g : List BookingSegment) (e : Refusal) → Overflows b f e → Overflows b (f ++ g) e
overflows-more b f g e p = record { full = p.full; many = let h = p.many in simp length-append (omega (arith, length-append (listed b) f)) }

-- `push`: a store at the count
module _ (b : Bookings) (q : Tidy b) where
  count-is : b.count ≡ length (listed b)
  count-is = ap (λ (r : Bookings). r.count) q.is

  pub push-none : Holds b [] b
  push-none = record { is = q.is ∙ ap list_in (sym (append-nil (listed b))); few = omega (arith, q.few, ap (λ (l : List BookingSegment). length l) (append-nil (listed b))) }

  module _ (g : BookingSegment) where
    more : length (listed b ++ (g ∷ [])) ≡ b.count + 1
    more = length-append (listed b) (g ∷ []) ∙ omega (arith, count-is)

    pub push-some : b.count < listed_max → Holds b (g ∷ []) (record { segments = set b.segments b.count g; count = b.count + 1 })
    push-some h =
        record {
          is = ap (λ (l : List BookingSegment). let r : Bookings = record { segments = set l b.count g; count = b.count + 1 } in r) (ap (λ (r : Bookings). r.segments) q.is)
              ∙ ap (λ (l : List BookingSegment). let r : Bookings = record { segments = l; count = b.count + 1 } in r) (padded-store listed_max (segment 0 0 0) (listed b) g b.count (sym count-is) h)
              ∙ ap (λ (n : ℕ). let r : Bookings = record { segments = laid_of (listed b ++ (g ∷ [])); count = n } in r) (sym more);
          few = omega (arith, more);
        }

    pub push-full : listed_max ≤ b.count → Overflows b (g ∷ []) Full
    push-full h = record { full = refl; many = omega (arith, more) }

-- `set`: what is listed so far, with what the others leave, is the whole
module _ (s e w : ℕ) where
  pub record Laying (l : List BookingSegment) (i : ℕ) (b : Bookings) : Type 0 where
    pub tidy : Tidy b
    pub same : set_of s e w l ≡ listed b ++ set_of s e w (drop i l)

  pub lay-first : (l : List BookingSegment) (b : Bookings) → b ≡ list_in [] → Laying l 0 b
  lay-first l b h =
      record {
        tidy = rw h (record { is = ap list_in (sym (listed_in [])); few = omega (arith, listed_in []) });
        same = ap (λ (k : List BookingSegment). k ++ set_of s e w l) (sym (listed_in []) ∙ ap (λ (r : Bookings). listed r) (sym h));
      }

  module _ (l : List BookingSegment) (i : ℕ) (b : Bookings) (q : Laying l i b) where
    lay-none : length l ≤ i → set_of s e w l ≡ listed b
    unfolding set_of
    lay-none h = q.same ∙ ap (λ (k : List BookingSegment). listed b ++ set_of s e w k) (drop_of_length-le l h) ∙ append-nil (listed b)

    module _ (z : BookingSegment) (lt : i < length l) (c : Parts) (is : laid_parts c ≡ parts_of s e w (get_or l i z)) where
      lay-here : set_of s e w l ≡ (listed b ++ laid_parts c) ++ set_of s e w (drop (i + 1) l)
      unfolding set_of
      lay-here =
          q.same
          ∙ ap (λ (k : List BookingSegment). listed b ++ set_of s e w k) (at-whole l i z lt)
          ∙ ap (λ (k : List BookingSegment). listed b ++ (k ++ set_of s e w (drop (i + 1) l))) (sym is)
          ∙ sym (append_assoc (listed b) (laid_parts c) (set_of s e w (drop (i + 1) l)))

      pub lay-on : (x : Bookings) → Holds b (laid_parts c) x → Laying l (i + 1) x
      lay-on x p =
          record {
            tidy = tidy-holds b x (laid_parts c) p;
            same = lay-here ∙ ap (λ (k : List BookingSegment). k ++ set_of s e w (drop (i + 1) l)) (sym (listed-holds b x (laid_parts c) p));
          }

      pub lay-many : (x : Refusal) → Overflows b (laid_parts c) x → listed_max < length (set_of s e w l)
      lay-many x p =
          let many = p.many in
          omega (arith, ap (λ (k : List BookingSegment). length k) lay-here ∙ length-append (listed b ++ laid_parts c) (set_of s e w (drop (i + 1) l)))

module _ (r : Bookings) (s e w : ℕ) where
  -- 10 and the list as it came
  pub set_full : (x : Refusal) → listed_max < length (set_of s e w (listed r)) → x ≡ Full → set_in r (Err x) ≡ set_bookings r s e w
  unfolding set_bookings
  set_full x h q = rw (lt-leb _ _ h, q) refl

  -- 0 and the list with the booking
  pub set-fits : (b : Bookings) → length (set_of s e w (listed r)) ≤ listed_max → b ≡ list_in (set_of s e w (listed r)) → set_in r (Ok b) ≡ set_bookings r s e w
  unfolding set_bookings
  set-fits b h q = rw (le-leb _ _ h, q) refl

  pub lay-last : (i : ℕ) (b : Bookings) → Laying s e w (listed r) i b → length (listed r) ≤ i → set_in r (Ok b) ≡ set_bookings r s e w
  lay-last i b q h =
      let is = lay-none s e w (listed r) i b q h in
      set-fits b (omega (arith, q.tidy.few, ap (λ (k : List BookingSegment). length k) is)) (q.tidy.is ∙ ap list_in (sym is))

  pub lay-stop : (i : ℕ) (b : Bookings) → Laying s e w (listed r) i b → (z : BookingSegment) → i < length (listed r) → (c : Parts)
      → laid_parts c ≡ parts_of s e w (get_or (listed r) i z) → (x : Refusal) → Overflows b (laid_parts c) x → set_in r (Err x) ≡ set_bookings r s e w
  lay-stop i b q z lt c is x p = set_full x (lay-many s e w (listed r) i b q z lt c is x p) p.full
