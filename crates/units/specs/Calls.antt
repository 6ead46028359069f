-- A manager by its promises alone, and any calls of it but openings, refused ones too, each on the record that the last one handed back.
use Rattle.units.specs.declared.Date.{Date}
use Rattle.units.specs.declared.TxData.{TxData}
use Rattle.units.specs.declared.Bundle.{Bundle}
use Rattle.units.specs.declared.Offer.{Offer}

-- its record and its answers, and what each call promises of its answer
pub record Calls : Type 1 where
  pub Manager : Type 0
  pub Booked : Type 0
  pub Listing : Type 0
  pub dry_run : Manager → Date → Bundle → Offer → Type 0
  pub book : Manager → Date → Bundle → TxData → Booked → Type 0
  pub list : Manager → Listing → Type 0
  -- the record that a booking hands back
  pub after : Booked → Manager

-- any calls, each with any answer that its promise allows
pub data Runs (M : Calls) : M.Manager → M.Manager → Type 0 where
  done : {x : M.Manager} → Runs M x x
  dry_run : {x y : M.Manager} (at : Date) (b : Bundle) (o : Offer) → M.dry_run x at b o → Runs M x y → Runs M x y
  list : {x y : M.Manager} (o : M.Listing) → M.list x o → Runs M x y → Runs M x y
  book : {x y : M.Manager} (at : Date) (b : Bundle) (d : TxData) (a : M.Booked) → M.book x at b d a → Runs M (M.after a) y → Runs M x y
