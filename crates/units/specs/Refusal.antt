-- 01, "Refusal numbers": the number of each refusal, and of a call's answer.
use Rattle.std.specs.Prelude.{ℕ, Result, Ok, Err}
use Rattle.units.specs.declared.refusal.Refusal.{Refusal}
use Rattle.units.specs.declared.refusal.Refusal.TheVariants.{Record, Bundle, Window, Rates, Delays, Volume, NoOffer, NoDelay, NotOffered, Full, Polynomial, SelfUpdate, Queue, Classes, ZeroLength}

abbrev pub number_of : Refusal → ℕ
number_of Record = 1
number_of Bundle = 2
number_of Window = 3
number_of Rates = 4
number_of Delays = 5
number_of Volume = 6
number_of NoOffer = 7
number_of NoDelay = 8
number_of NotOffered = 9
number_of Full = 10
number_of Polynomial = 11
number_of SelfUpdate = 12
number_of Queue = 13
number_of Classes = 14
number_of ZeroLength = 17

-- the number of what is done or refused: 0 is done
abbrev pub told : {A : Type 0} → Result A Refusal → ℕ
told (Ok _) = 0
told (Err r) = number_of r
