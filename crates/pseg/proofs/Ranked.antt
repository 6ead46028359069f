-- Over any calls from an opening on: a tick is listed at the level of the last accepted booking that holds it, and two accepted sends share
-- a tick only where the later one's priority is higher; so those of equal priority share none.
use Prim.Native.Nat.{ℕ, ◌+◌, ◌<◌, ◌≤◌}
use mathlib.Core.Bool.{true}
use mathlib.Core.Path.{◌≡◌, sym, ap, ◌∙◌}
use mathlib.Core.List.{List, [], ◌∷◌}
use mathlib.Core.Logic.{⊎_elim, ◌⊎◌, inl, inr}
use native.Mathlib.Omega.{arith}
use lib.Dec.{leb}
use borrow.Author.Tests.{le-leb, lt-leb, lt-ltb, le-ltb}
use Rattle.units.specs.declared.Date.{Date}
use Rattle.units.specs.declared.Interval.{Interval}
use Rattle.units.specs.declared.TxData.{TxData}
use Rattle.units.specs.declared.Bundle.{Bundle}
use Rattle.units.specs.Logged.{Booking, State, entry, Runs}
use Rattle.units.specs.Instants.{Apart, AllIn}
use Rattle.units.proofs.Logic.{both_yes, both-stop, both-not}
use Rattle.units.proofs.Numbers.{le-or-lt}
use Rattle.segmentation.specs.declared.RateSegment.{RateSegment}
use Rattle.segmentation.specs.declared.DelaySegment.{DelaySegment}
use Rattle.contact.specs.declared.Choices.{Choices}
use Rattle.contact.specs.declared.Contact.{Contact}
use Rattle.bookings.specs.declared.BookingSegment.{BookingSegment}
use Rattle.bookings.specs.Listed.{level_at, listed}
use Rattle.bookings.proofs.Instants.{level_in}
use Rattle.pseg.specs.declared.PrioritySeg.{PrioritySeg}
use Rattle.pseg.specs.declared.Opened.{Opened}
use Rattle.pseg.specs.Record.{record_ok}
use Rattle.pseg.specs.Open.{whole_window}
use Rattle.pseg.specs.Book.{book_of}
use Rattle.pseg.specs.Ranked.{level_by, AllBelow, Ranked}
use Rattle.bookings.proofs.CutLoop.{listed_in}
use Rattle.pseg.proofs.Facts.{facts, found-free, found-ends}
use Rattle.pseg.proofs.Kept.{opened-manager, Accepted, book-keeps, booked-instants}
use Rattle.pseg.proofs.Promised.{promised, Reached}
use Rattle.pseg.proofs.Runs.{run-booked, fresh-none, fresh_ok, fresh-contact}

-- the tick is in the send interval, or out of it
abbrev Holds : Booking → ℕ → Type 0
Holds b t = (b.send.start.0 ≤ t) × (t < b.send.end.0)

within : (b : Booking) (t : ℕ) → (Holds b t) ⊎ ((t < b.send.start.0) ⊎ (b.send.end.0 ≤ t))
within b t =
    ⊎_elim
    (λ (from : b.send.start.0 ≤ t).
    ⊎_elim (λ (late : b.send.end.0 ≤ t). inr (inr late)) (λ (to : t < b.send.end.0). inl (from, to)) (le-or-lt b.send.end.0 t))
    (λ (early : t < b.send.start.0). inr (inl early))
    (le-or-lt b.send.start.0 t)

module _ (b : Booking) (log : List Booking) (t : ℕ) where
  level-held : Holds b t → level_by (b ∷ log) t ≡ b.priority + 1
  unfolding level_by
  level-held h = rw (both_yes _ _ (le-leb _ _ h.0) (lt-ltb _ _ h.1))

  level-else : (t < b.send.start.0) ⊎ (b.send.end.0 ≤ t) → level_by (b ∷ log) t ≡ level_by log t
  unfolding level_by
  level-else =
      ⊎_elim
      (λ (early : t < b.send.start.0). rw (both-stop (leb b.send.start.0 t) _ (lt-leb _ _ early)))
      (λ (late : b.send.end.0 ≤ t). rw (both-not (leb b.send.start.0 t) _ (le-ltb _ _ late)))

-- bookings of lower priority leave a tick below it
below-level : (b : Booking) (log : List Booking) (t : ℕ) → AllBelow b log → Holds b t → level_by log t ≤ b.priority
unfolding AllBelow level_by
below-level b [] t q h = omega arith
below-level b (c ∷ log) t q h =
    ⊎_elim
    (λ (x : Holds c t). omega (arith, level-held c log t x, q.0 t h.0 h.1 x.0 x.1))
    (λ (x : (t < c.send.start.0) ⊎ (c.send.end.0 ≤ t)). omega (arith, level-else c log t x, below-level b log t q.1 h))
    (within c t)

-- and where each tick of a booking is left below it, so do all that it shares one with
level-below : (b : Booking) (log : List Booking) → Ranked log → ((t : ℕ) → Holds b t → level_by log t ≤ b.priority) → AllBelow b log
unfolding AllBelow Ranked
level-below b [] q low = tt
level-below b (c ∷ log) q low = (
  λ t x y z w. omega (arith, level-held c log t (z, w), low t (x, y)),
  level-below b log q.1
      (λ t h.
      ⊎_elim
      (λ (x : Holds c t). omega (arith, level-held c log t x, low t h, below-level c log t q.0 x))
      (λ (x : (t < c.send.start.0) ⊎ (c.send.end.0 ≤ t)). omega (arith, level-else c log t x, low t h))
      (within c t)),
)

module _ (w : Interval) where
  -- what any calls keep of a record with this window
  record Keeping (x : State PrioritySeg) : Type 0 where
    pub ok : record_ok x.manager ≡ true
    pub same : x.manager.contact.window ≡ w
    pub levels : (t : ℕ) → w.start.0 ≤ t → t < w.end.0 → level_at (listed x.manager.bookings) t ≡ level_by x.log t
    pub ranked : Ranked x.log
    pub inside : AllIn w x.log

  module _ (x : State PrioritySeg) (q : Keeping x) (at : Date) (b : Bundle) (d : TxData) (y : Accepted x.manager at b d (book_of x.manager at b d)) where
    abbrev start : ℕ
    start = w.start.0

    -- the send interval is in the window
    placed : (w.start.0 ≤ d.send.start.0) × (d.send.start.0 ≤ d.send.end.0) × (d.send.end.0 ≤ w.end.0)
    placed =
        let fs = facts x.manager q.ok in
        let free = found-free x.manager fs at.0 b d.send y.found in
        let ends = found-ends x.manager fs at.0 b d.send y.found y.some in
        (rw q.same at free.low, ends.forth, rw q.same at ends.by)

    -- each of its ticks was booked below the priority
    low : (t : ℕ) → Holds (entry b d) t → level_by x.log t ≤ b.priority.0
    low t h =
        let free = found-free x.manager (facts x.manager q.ok) at.0 b d.send y.found in
        omega (arith, free.free t h.0 h.1, q.levels t (omega (arith, h.0, placed.0)) (omega (arith, h.1, placed.2)))

    levels-now : (t : ℕ) → w.start.0 ≤ t → t < w.end.0 → level_at (listed (book_of x.manager at b d).manager.bookings) t ≡ level_by (entry b d ∷ x.log) t
    levels-now t from to =
        let set = booked-instants x.manager at b d q.ok y.number t (rw q.same from) (rw q.same to) in
        ⊎_elim
        (λ (h : Holds (entry b d) t). set.0 h.0 h.1 ∙ sym (level-held (entry b d) x.log t h))
        (λ (h : (t < d.send.start.0) ⊎ (d.send.end.0 ≤ t)). set.1 h ∙ q.levels t from to ∙ sym (level-else (entry b d) x.log t h))
        (within (entry b d) t)

    accepted-keeps : Keeping (record { manager = (book_of x.manager at b d).manager; log = entry b d ∷ x.log })
    unfolding Ranked AllIn
    accepted-keeps =
        record {
          ok = book-keeps x.manager at b d q.ok;
          same = ap (λ (m : PrioritySeg). m.contact.window) y.manager ∙ q.same;
          levels = levels-now;
          ranked = (level-below (entry b d) x.log q.ranked low, q.ranked);
          inside = (placed.0, placed.1, placed.2, q.inside);
        }

  run-keeping : (x y : State PrioritySeg) → Keeping x → Runs promised x y → Keeping y
  run-keeping = run-booked Keeping (λ x q. q.ok) accepted-keeps

-- from an opening on
module _ {h : Choices} {w : Interval} {rates : List RateSegment} {m : ℕ} {delays : List DelaySegment} {k : ℕ} {y : State PrioritySeg} (q : Reached h w rates m delays k y) where
  fresh : Keeping w (record { manager = q.opened.manager; log = [] })
  unfolding level_by Ranked AllIn
  fresh =
      let list : listed q.opened.manager.bookings ≡ whole_window w ∷ [] =
      ap (λ (o : Opened). listed o.manager.bookings) q.met.1 ∙ ap (λ (r : PrioritySeg). listed r.bookings) (opened-manager h w rates m delays k (fresh-none q)).1 ∙ listed_in (whole_window w ∷ []) in
      record {
        ok = fresh_ok q;
        same = ap (λ (c : Contact). c.window) (fresh-contact q);
        levels = λ t from to. ap (λ (f : List BookingSegment). level_at f t) list ∙ level_in (whole_window w) [] t from to;
        ranked = tt;
        inside = tt;
      }

  after : Keeping w y
  after = run-keeping w _ y fresh q.runs

  -- what is listed at a tick of the window
  pub reached-levels : (t : ℕ) → w.start.0 ≤ t → t < w.end.0 → level_at (listed y.manager.bookings) t ≡ level_by y.log t
  reached-levels = after.levels

  -- who shares a tick
  pub reached-ranked : (Ranked y.log) × (AllIn w y.log)
  reached-ranked = (after.ranked, after.inside)

-- those of equal priority, or where the later one's is lower, share none
pub ranked-apart : (b c : Booking) (log : List Booking) → AllBelow b (c ∷ log) → b.priority ≤ c.priority → Apart b.send.start.0 b.send.end.0 c.send.start.0 c.send.end.0
unfolding AllBelow
ranked-apart b c log q le t x y z w = omega (arith, q.0 t x y z w, le)
