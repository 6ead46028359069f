-- The segments of a list that covers a window follow each other: what `set` takes for granted, a valid record has.
use Prim.Native.Nat.{ℕ}
use mathlib.Core.Bool.{true}
use mathlib.Core.Path.{◌≡◌}
use mathlib.Core.List.{List, [], ◌∷◌}
use Rattle.bookings.specs.declared.BookingSegment.{BookingSegment}
use Rattle.bookings.specs.Listed.{cover_ok}
use Rattle.bookings.proofs.CoverLaws.{Cover, cover-of}
use Rattle.bookings.specs.Granted.{Chain, Follows}

chain-of : (a b : ℕ) (l : List BookingSegment) → Cover a b l → Chain a l
unfolding Cover Chain
chain-of a b [] q = tt
chain-of a b (g ∷ l) q = (q.0, q.1, chain-of g.end.0 b l q.3)

pub cover-follows : (a b : ℕ) (l : List BookingSegment) → cover_ok a b l ≡ true → Follows l
cover-follows a b l e = record { from = a; chain = chain-of a b l (cover-of a b l e) }
