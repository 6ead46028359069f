-- Demand 3: open the free-volume manager fresh and make any calls but openings, refused ones too, each on the record the last one handed back.
use Rattle.std.specs.Prelude.{ℕ, List, ◌∷◌, eqb}
use Rattle.units.specs.declared.Date.{Date}
use Rattle.units.specs.declared.Interval.{Interval}
use Rattle.units.specs.declared.TxData.{TxData}
use Rattle.units.specs.declared.Bundle.{Bundle}
use Rattle.units.specs.declared.Offer.{Offer}
use Rattle.units.specs.Logic.{pick}
use Rattle.seg.specs.declared.FreeVolume.{FreeVolume}
use Rattle.seg.specs.declared.Booked.{Booked}
use Rattle.seg.specs.declared.Listing.{Listing}

-- an accepted booking: its send interval and its size
pub record Booking : Type 0 where
  pub send : Interval
  pub size : ℕ

-- the record that the last call handed back, and the accepted bookings, the last one first
pub record State : Type 0 where
  pub manager : FreeVolume
  pub log : List Booking

-- what the three calls promise of their answers
pub record Promises : Type 1 where
  pub dry_run : FreeVolume → Date → Bundle → Offer → Type 0
  pub book : FreeVolume → Date → Bundle → TxData → Booked → Type 0
  pub list : FreeVolume → Listing → Type 0

-- what is booked, as the log has it
abbrev pub entry : Bundle → TxData → Booking
entry b d = record { send = d.send; size = b.size.0 }

-- the log with the booking added, if its number is 0
abbrev pub logged : Bundle → TxData → Booked → List Booking → List Booking
logged b d a log = pick (eqb a.number 0) (entry b d ∷ log) log

-- any calls, each with any answer that its promise allows, one after the other
pub data Runs (P : Promises) : State → State → Type 0 where
  done : {x : State} → Runs P x x
  dry_run : {x y : State} (at : Date) (b : Bundle) (o : Offer) → P.dry_run x.manager at b o → Runs P x y → Runs P x y
  list : {x y : State} (o : Listing) → P.list x.manager o → Runs P x y → Runs P x y
  book : {x y : State} (at : Date) (b : Bundle) (d : TxData) (a : Booked) → P.book x.manager at b d a
      → Runs P (record { manager = a.manager; log = logged b d a x.log }) y → Runs P x y
