-- Each call's promise determines its answer. `Post` is the reading of the contract in src/.
-- Not so `parts`, which callers use within: what it returns as the middle of two parts it may return as the first of them.
use Prim.Native.Nat.{ℕ}
use mathlib.Core.Path.{◌≡◌, sym, ap, ◌∙◌}
use mathlib.Core.List.{List}
use contract.Lifetimes.{Lfts}
use borrow.Fn.Kinds.{Dens, ended_of}
use denote.Triple.Clauses.{AtExit}
use Rattle.std.proofs.Common.{Bor}
use Rattle.std.specs.Prelude.{Option, Result, Ok, Err}
use Rattle.units.specs.declared.Date.{Date}
use Rattle.units.specs.declared.Priority.{Priority}
use Rattle.units.specs.declared.Interval.{Interval}
use Rattle.units.specs.declared.refusal.Refusal.{Refusal}
use Rattle.units.proofs.Determined.{Determined}
use Rattle.units.proofs.Refusals.{told-once}
use Rattle.bookings.specs.declared.BookingSegment.{BookingSegment}
use Rattle.bookings.specs.declared.Bookings.{Bookings}
use Rattle.bookings.specs.declared.Level.{Level}
use Rattle.bookings.specs.declared.Search.{Search}
use Rattle.bookings.specs.declared.Set.{Set}
use Rattle.bookings.specs.Cut.{bookings_in}
use Rattle.bookings.specs.Search.{Run}
use Rattle.bookings.specs.Granted.{set_in, placed}
use Rattle.bookings.proofs.LevelFromPriority.from.Reads as of-reads
use Rattle.bookings.proofs.BookingSegment.follows.Reads as follows-reads
use Rattle.bookings.proofs.BookingSegmentPlace.is_blank.Reads as no-booking-reads
use Rattle.bookings.proofs.BookingsDefault.default.Reads as nothing-reads
use Rattle.bookings.proofs.Bookings.only.Reads as only-reads
use Rattle.bookings.proofs.Bookings.listed.Reads as listed-reads
use Rattle.bookings.proofs.Bookings.set.Reads as set_Reads
use Rattle.bookings.proofs.place.set.Kinds as place-set-kinds
use Rattle.bookings.proofs.place.set.Reads as place-set-reads
use Rattle.bookings.proofs.Set.told.Reads as told-reads
use Rattle.bookings.proofs.cover_ok.Reads as cover-ok-reads
use Rattle.bookings.proofs.reach.Reads as reach-reads
use Rattle.bookings.proofs.Search.begin.Reads as begin-reads
use Rattle.bookings.proofs.Search.turn.Reads as turn-reads
use Rattle.bookings.proofs.Search.find_run.Reads as find-run-reads

pub of-unique : (priority : Priority) → Determined (of-reads.Post tt (priority, tt))
of-unique priority r q x y f g = ap (λ (n : ℕ). record { 0 = n }) (f ∙ sym g)

pub follows-unique : (g : BookingSegment) (at : Date) → Determined (follows-reads.Post tt (g, (at, tt)))
follows-unique g at r q x y f h = f ∙ sym h

pub no-booking-unique : (g : BookingSegment) → Determined (no-booking-reads.Post tt (g, tt))
no-booking-unique g r q x y f h = f ∙ sym h

pub cover-ok-unique : (lf : Lfts 1) (segments : Bor (List BookingSegment)) (window : Interval) → Determined (cover-ok-reads.Post lf (segments, (window, tt)))
cover-ok-unique lf segments window r q x y f g = f ∙ sym g

pub nothing-unique : Determined (nothing-reads.Post tt tt)
nothing-unique r q x y f g = f ∙ sym g

pub only-unique : (g : BookingSegment) → Determined (only-reads.Post tt (g, tt))
only-unique g r q x y f h = f ∙ sym h

-- what is lent back is told by the segments in it
pub listed-unique : (lf : Lfts 1) (self : Bor Bookings) (r q : Bor (List BookingSegment)) (x y : _) → listed-reads.Post lf (self, tt) r x → listed-reads.Post lf (self, tt) q y → r.now ≡ q.now
listed-unique lf self r q x y f g = f ∙ sym g

pub reach-unique : (to : Date) (run : Interval) → Determined (reach-reads.Post tt (to, (run, tt)))
reach-unique to run r q x y f g = f ∙ sym g

module _ (lf : Lfts 2) (self : Bor Search) where
  pub begin-unique : (to start : Date) → Determined (begin-reads.Post lf (self, (to, (start, tt))))
  begin-unique to start r q x y f g = f ∙ sym g

  pub turn-unique : (g : BookingSegment) (now : Run) → Determined (turn-reads.Post lf (self, (g, (now, tt))))
  turn-unique g now r q x y f h = f ∙ sym h

module _ (lf : Lfts 3) (self : Bor Search) (segments : Bor (List BookingSegment)) where
  pub find-run-unique : Determined (find-run-reads.Post lf (self, (segments, tt)))
  find-run-unique r q x y f g = f ∙ sym g

-- a setting's answer tells what was done
set-once : (b : Bookings) (r q : Result Bookings Refusal) → set_in b r ≡ set_in b q → r ≡ q
set-once b (Ok r) (Ok q) h = ap (λ (x : Set). Ok x.bookings) h
set-once b (Ok r) (Err q) h = let e = told-once (Ok tt) (Err q) (ap (λ (x : Set). x.number) h) in cc
set-once b (Err r) (Ok q) h = let e = told-once (Err r) (Ok tt) (ap (λ (x : Set). x.number) h) in cc
set-once b (Err r) (Err q) h = let e = told-once (Err r) (Err q) (ap (λ (x : Set). x.number) h) in cc

pub set-unique : (self : Bookings) (send : Interval) (level : Level) → Determined (set_Reads.Post tt (self, (send, (level, tt))))
set-unique self send level r q x y f g = set-once self r q (f ∙ sym g)

-- a setting where the list stands: its number, the segments and the count that it leaves
pub place-set-unique : (κs : Lfts 2) (a : Dens κs place-set-kinds.ps) (r q : Result Unit Refusal) (x y : AtExit (ended_of 2 place-set-kinds.ps place-set-kinds.r) κs)
    → place-set-reads.Post κs a r x → place-set-reads.Post κs a q y → placed (bookings_in x.0.now x.1.0.now) r ≡ placed (bookings_in y.0.now y.1.0.now) q
place-set-unique κs a r q x y f g = f ∙ sym g

pub told-unique : (came : Bookings) (done : Result Bookings Refusal) → Determined (told-reads.Post tt (came, (done, tt)))
told-unique came done r q x y f g = f ∙ sym g
