-- A manager by its promises alone, a further call too, and any calls of it but openings, with a log of the accepted bookings.
use Rattle.std.specs.Prelude.{ℕ, ◌≡◌, List, [], ◌∷◌, eqb}
use Rattle.units.specs.declared.Date.{Date}
use Rattle.units.specs.declared.Interval.{Interval}
use Rattle.units.specs.declared.TxData.{TxData}
use Rattle.units.specs.declared.Bundle.{Bundle}
use Rattle.units.specs.declared.Offer.{Offer}
use Rattle.units.specs.Logic.{pick}

-- its record and its answers, and what each call promises of its answer
pub record Calls : Type 1 where
  pub Manager : Type 0
  pub Booked : Type 0
  pub Listing : Type 0
  pub dry_run : Manager → Date → Bundle → Offer → Type 0
  pub book : Manager → Date → Bundle → TxData → Booked → Type 0
  pub list : Manager → Listing → Type 0
  -- a further call that hands a record back (manual queueing)
  pub further : Manager → Booked → Type 0
  -- the number of such an answer, and the record that it hands back; the number of a list's
  pub number : Booked → ℕ
  pub after : Booked → Manager
  pub shown : Listing → ℕ

-- an accepted booking: its send interval, its size and its priority
pub record Booking : Type 0 where
  pub send : Interval
  pub size : ℕ
  pub priority : ℕ

-- what is booked, as the log has it
abbrev pub entry : Bundle → TxData → Booking
entry b d = record { send = d.send; size = b.size.0; priority = b.priority.0 }

-- the record that the last call handed back, and the accepted bookings, the last one first
pub record State (R : Type 0) : Type 0 where
  pub manager : R
  pub log : List Booking

-- the same records and answers with other promises of the same calls
abbrev pub promising : (M : Calls)
    → (M.Manager → Date → Bundle → Offer → Type 0) → (M.Manager → Date → Bundle → TxData → M.Booked → Type 0) → (M.Manager → M.Listing → Type 0) → (M.Manager → M.Booked → Type 0) → Calls
promising M dry_run book list further =
    record {
      Manager = M.Manager;
      Booked = M.Booked;
      Listing = M.Listing;
      dry_run = dry_run;
      book = book;
      list = list;
      further = further;
      number = M.number;
      after = M.after;
      shown = M.shown;
    }

module _ (M : Calls) where
  -- after a booking: what it handed back, and the log with the booking added, if its number is 0
  abbrev pub booked : Bundle → TxData → M.Booked → State M.Manager → State M.Manager
  booked b d a x = record { manager = M.after a; log = pick (eqb (M.number a) 0) (entry b d ∷ x.log) x.log }

  -- after a further call
  abbrev pub altered : M.Booked → State M.Manager → State M.Manager
  altered a x = record { manager = M.after a; log = x.log }

  -- any calls, each with any answer that its promise allows
  pub data Runs : State M.Manager → State M.Manager → Type 0 where
    done : {x : State M.Manager} → Runs x x
    dry_run : {x y : State M.Manager} (at : Date) (b : Bundle) (o : Offer) → M.dry_run x.manager at b o → Runs x y → Runs x y
    list : {x y : State M.Manager} (o : M.Listing) → M.list x.manager o → Runs x y → Runs x y
    book : {x y : State M.Manager} (at : Date) (b : Bundle) (d : TxData) (a : M.Booked) → M.book x.manager at b d a → Runs (booked b d a x) y → Runs x y
    further : {x y : State M.Manager} (a : M.Booked) → M.further x.manager a → Runs (altered a x) y → Runs x y

  -- from a record on which nothing is booked yet, to one and its accepted bookings
  abbrev pub RunsFrom : M.Manager → State M.Manager → Type 0
  RunsFrom r y = Runs (record { manager = r; log = [] }) y

  -- no call on the record answers the number
  pub record Never (n : ℕ) (r : M.Manager) : Type 0 where
    pub dry_run : (at : Date) (b : Bundle) (o : Offer) → M.dry_run r at b o → o.number ≡ n → ⊥
    pub book : (at : Date) (b : Bundle) (d : TxData) (a : M.Booked) → M.book r at b d a → M.number a ≡ n → ⊥
    pub list : (o : M.Listing) → M.list r o → M.shown o ≡ n → ⊥
    pub further : (a : M.Booked) → M.further r a → M.number a ≡ n → ⊥
