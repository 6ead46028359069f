-- What a booking leaves of a segment, as the code returns it.
use Prim.Native.Nat.{◌<◌, ℕ, max, min}
use mathlib.Core.Bool.{Bool, true, false}
use mathlib.Core.Path.{◌≡◌, refl, sym, ap, ◌∙◌}
use mathlib.Core.List.{List, [], ◌∷◌, ◌++◌}
use lib.Dec.{ltb}
use borrow.Author.Tests.{lt-ltb, le-ltb}
use Rattle.std.specs.Bool.{then_some}
use Rattle.std.specs.Ordering.{nat_cmp, is_lt}
use Rattle.units.proofs.Compare.{lt-yes, lt-not}
use Rattle.units.specs.Logic.{pick}
use Rattle.units.specs.declared.Date.{Date}
use Rattle.bookings.specs.declared.Level.{Level}
use Rattle.bookings.specs.declared.BookingSegment.{BookingSegment}
use Rattle.bookings.specs.Cut.{segment, before_of, after_of, parts_of}
use Rattle.bookings.specs.Granted.{part_of, laid_parts}
use Rattle.bookings.proofs.Forms.{parts-on}

abbrev pub stretch : Date → Date → Level → BookingSegment
stretch a b w = record { start = a; end = b; level = w }

-- a comparison, as a test
lower : (a b : ℕ) (r : Bool) → r ≡ is_lt (nat_cmp a b) → r ≡ ltb a b
lower a b true e = sym (lt-ltb a b (lt-yes a b true e refl))
lower a b false e = sym (le-ltb a b (lt-not a b false e refl))

-- a part that is there where a test holds
part-where : (b c : Bool) (g : BookingSegment) → b ≡ c → part_of (then_some b g) ≡ pick c (g ∷ []) []
part-where true c g h = rw (sym h) refl
part-where false c g h = rw (sym h) refl

-- the segment reaches into the send interval; x to y is what they share; b and a tell whether a part is left before and after
pub cut-on : (s e : Date) (w : Level) (g : BookingSegment) (x y : Date) (b a : Bool) → s.0 < g.end.0 → g.start.0 < e.0
    → x.0 ≡ max g.start.0 s.0 → y.0 ≡ min g.end.0 e.0 → b ≡ is_lt (nat_cmp g.start.0 s.0) → a ≡ is_lt (nat_cmp e.0 g.end.0)
    → laid_parts (record { before = then_some b (stretch g.start s g.level); middle = stretch x y w; after = then_some a (stretch e g.end g.level) }) ≡ parts_of s.0 e.0 w.0 g
cut-on s e w g x y b a past until from to hb ha =
    ap (λ (l : List BookingSegment). l ++ (stretch x y w ∷ part_of (then_some a (stretch e g.end g.level)))) (part-where b _ (stretch g.start s g.level) (lower _ _ b hb))
    ∙ ap (λ (l : List BookingSegment). before_of s.0 g ++ (stretch x y w ∷ l)) (part-where a _ (stretch e g.end g.level) (lower _ _ a ha))
    ∙ ap (λ (n : ℕ). before_of s.0 g ++ (segment n y.0 w.0 ∷ after_of e.0 g)) from
    ∙ ap (λ (n : ℕ). before_of s.0 g ++ (segment (max g.start.0 s.0) n w.0 ∷ after_of e.0 g)) to
    ∙ sym (parts-on s.0 e.0 w.0 g past until)
