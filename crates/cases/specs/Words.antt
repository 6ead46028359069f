-- The words in which the table is written: openings, calls and answers of all four managers.
use Rattle.std.specs.Prelude.{ℕ, Bool, List, ℤ, pos, negsuc}
use Rattle.units.specs.declared.Interval.{Interval}
use Rattle.units.specs.declared.Volume.{Volume}
use Rattle.units.specs.declared.TxData.{TxData}
use Rattle.units.specs.declared.Offer.{Offer}
use Rattle.units.specs.Answer.{interval, refused}
use Rattle.segmentation.specs.declared.RateSegment.{RateSegment}
use Rattle.segmentation.specs.declared.DelaySegment.{DelaySegment}
use Rattle.contact.specs.declared.Choices.{Choices}
use Rattle.poly_seg.specs.declared.Choices.{Choices as PolynomialChoices}
use Rattle.legacy.specs.declared.Choices.{Choices as QueueChoices}
use Rattle.legacy.specs.declared.Flags.{Flags}

-- whose record, and the choices and figures that it is opened with
pub data Opening : Type 0 where
  free : (choices : Choices) (window : Interval) (rates : List RateSegment) (delays : List DelaySegment) → Opening
  priority : (choices : Choices) (window : Interval) (rates : List RateSegment) (delays : List DelaySegment) → Opening
  polynomial : (choices : PolynomialChoices) (window : Interval) (coefficients : List ℤ) (offset : ℕ) (delays : List DelaySegment) → Opening
  queue : (choices : QueueChoices) (window : Interval) (rate delay classes : ℕ) (flags : Flags) (budgets : List Volume) → Opening

-- where 01 names no priority the manager does not go by it: 0 stands there
pub data Call : Type 0 where
  dry_run : (at size priority : ℕ) → Call
  book : (at size priority : ℕ) (dates : TxData) → Call
  list : Call

-- a listed segment; the value is the volume (0 for polynomial), or the priority, -1 for none
pub record Row : Type 0 where
  pub start : ℕ
  pub end : ℕ
  pub value : ℤ

-- a dry run's number and dates; a booking's number; a list's number and segments, or each class's queue
pub data Answer : Type 0 where
  offer : (answer : Offer) → Answer
  done : (number : ℕ) → Answer
  rows : (number : ℕ) (segments : List Row) → Answer
  queues : (number : ℕ) (sizes : List ℕ) → Answer

-- a call and what it answers
infix 70 ◌⇒◌
pub data Step : Type 0 where
  ◌⇒◌ : Call → Answer → Step

-- 01's number of the case, and calls on a fresh record, each on what the last one handed back
pub record Case : Type 0 where
  pub number : ℕ
  pub opening : Opening
  pub steps : List Step

abbrev pub case : ℕ → Opening → List Step → Case
case n o l = record { number = n; opening = o; steps = l }

-- 02, R-5: the edition of the end rule
abbrev pub edition : ℕ → Choices
edition n = record { edition = record { 0 = n }; rule = record { 0 = 1 }; strict = record { 0 = 0 } }

-- 02, R-4: the rule of the delays
abbrev pub rule : ℕ → Choices
rule n = record { edition = record { 0 = 1 }; rule = record { 0 = n }; strict = record { 0 = 0 } }

abbrev pub polynomial_rule : ℕ → PolynomialChoices
polynomial_rule n = record { mode = record { 0 = 1 }; rule = record { 0 = n }; strict = record { 0 = 0 } }

-- 02, R-6: the mode in which capacity is counted
abbrev pub mode : ℕ → PolynomialChoices
mode n = record { mode = record { 0 = n }; rule = record { 0 = 1 }; strict = record { 0 = 0 } }

-- 02, R-7: the strict flag
abbrev pub strict : ℕ → Choices
strict n = record { edition = record { 0 = 1 }; rule = record { 0 = 1 }; strict = record { 0 = n } }

abbrev pub polynomial_strict : ℕ → PolynomialChoices
polynomial_strict n = record { mode = record { 0 = 1 }; rule = record { 0 = 1 }; strict = record { 0 = n } }

abbrev pub queue_strict : ℕ → QueueChoices
queue_strict n = record { strict = record { 0 = n } }

abbrev pub rate : ℕ → ℕ → ℕ → RateSegment
rate a b v = record { start = record { 0 = a }; end = record { 0 = b }; rate = record { 0 = v } }

abbrev pub delay : ℕ → ℕ → ℕ → DelaySegment
delay a b v = record { start = record { 0 = a }; end = record { 0 = b }; delay = record { 0 = v } }

-- added delay, self-update, budgeted
abbrev pub flags : Bool → Bool → Bool → Flags
flags a s b = record { add_delay = a; self_update = s; budgeted = b }

-- send start and end, receive start and end
abbrev pub dates : ℕ → ℕ → ℕ → ℕ → TxData
dates s e a b = record { send = interval s e; recv = interval a b }

-- a dry run's 0 with these dates
abbrev pub sends : ℕ → ℕ → ℕ → ℕ → Answer
sends s e a b = offer (record { number = 0; dates = dates s e a b })

-- a dry run's refusal
abbrev pub refusal : ℕ → Answer
refusal n = offer (refused n)

-- what a list's 0 comes with
abbrev pub lists : List Row → Answer
lists l = rows 0 l

abbrev pub queued : List ℕ → Answer
queued l = queues 0 l

-- [a,b) with a volume or a priority
abbrev pub row : ℕ → ℕ → ℕ → Row
row a b v = record { start = a; end = b; value = pos v }

-- [a,b) with -1
abbrev pub unbooked : ℕ → ℕ → Row
unbooked a b = record { start = a; end = b; value = negsuc 0 }
