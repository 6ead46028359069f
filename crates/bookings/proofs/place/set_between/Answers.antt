-- `bookings::place::set_between` meets its contract: the segments from the loop's place on are set and moved.
use Prim.Native.Nat.{ℕ, ◌-◌, max, min}
use mathlib.Core.Path.{◌≡◌, refl, ap, ◌∙◌}
use native.Mathlib.Omega.{arith}
use lib.ListN.{get_or}
use Rattle.units.specs.declared.Date.{Date}
use Rattle.bookings.specs.declared.Level.{Level}
use Rattle.bookings.specs.declared.BookingSegment.{BookingSegment}
use Rattle.bookings.specs.Cut.{segment, sent_of}
use Rattle.bookings.specs.Granted.{zero_booking}
use Rattle.bookings.proofs.Moved.{move-first, move-turn, move-last}
use Rattle.bookings.proofs.place.set_between.Goals as goal

-- the segment as the code makes it
made : (s e : Date) (w : Level) (g : BookingSegment) (x y : Date) → x.0 ≡ max g.start.0 s.0 → y.0 ≡ min g.end.0 e.0
    → record { start = x; end = y; level = w } ≡ sent_of s.0 e.0 w.0 g
made s e w g x y h k = ap (λ (n : ℕ). segment n y.0 w.0) h ∙ ap (λ (n : ℕ). segment (max g.start.0 s.0) n w.0) k

pub loop-k-init : goal.loop-k-init
loop-k-init c = move-first _ _ _ _ _ zero_booking c.requires.room c.requires.ordered

pub loop-k-preserved : goal.loop-k-preserved
loop-k-preserved c =
    move-turn _ _ _ _ _ zero_booking c.requires.room _ _ c.loop-k.invariant (c.loop-k.k - 1) (get_or c.loop-k.segments (c.loop-k.k - 1) zero_booking) _ _
    c.loop-k-test.true (omega (arith, c.loop-k-test.true)) refl
    (made c.args.send.start c.args.send.end c.args.level (get_or c.loop-k.segments (c.loop-k.k - 1) zero_booking) _ _ c.later.ensures c.sooner.ensures) refl

pub returns : goal.returns
returns c = move-last _ _ _ _ _ zero_booking c.requires.room _ _ c.loop-k.invariant c.loop-k-test.false
