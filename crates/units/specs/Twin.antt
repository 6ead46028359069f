-- 02, R-7: every other call answers, and alters the record, exactly as with the flag off. Over any manager and whatever its promises allow.
use Rattle.std.specs.Prelude.{ℕ, ◌≡◌}
use Rattle.units.specs.declared.Date.{Date}
use Rattle.units.specs.declared.TxData.{TxData}
use Rattle.units.specs.declared.Bundle.{Bundle}
use Rattle.units.specs.declared.Offer.{Offer}
use Rattle.units.specs.Logic.{both, pick}
use Rattle.units.specs.Answer.{offers}
use Rattle.units.specs.Strict.{zero_length}
use Rattle.units.specs.Calls.{Calls}

-- flagged: the record with the flag at a number and all else as it is; turned: a booking's answer with its record's flag so; refused: a refusal
module _ (M : Calls) (flagged : ℕ → M.Manager → M.Manager) (turned : ℕ → M.Booked → M.Booked) (refused : ℕ → M.Manager → M.Booked) where
  pub record Twins : Type 0 where
    pub dry_run : (r : M.Manager) (at : Date) (b : Bundle) (off on : Offer)
        → M.dry_run (flagged 0 r) at b off → M.dry_run (flagged 1 r) at b on → on ≡ off
    pub list : (r : M.Manager) (off on : M.Listing) → M.list (flagged 0 r) off → M.list (flagged 1 r) on → on ≡ off
    -- but booking an offer whose send start and end are equal: 17, and the record as it came
    pub book : (r : M.Manager) (at : Date) (b : Bundle) (d : TxData) (shown : Offer) (off on : M.Booked)
        → M.dry_run (flagged 1 r) at b shown → M.book (flagged 0 r) at b d off → M.book (flagged 1 r) at b d on
        → on ≡ pick (both (offers shown d) (zero_length d.send)) (refused 17 (flagged 1 r)) (turned 1 off)
