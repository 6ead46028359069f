-- The priority manager by what its calls promise in src/: its calls with a log, 01's tables of them, and what any calls from an opening on lead to.
use Prim.Native.Nat.{ℕ}
use mathlib.Core.Path.{◌≡◌, refl}
use mathlib.Core.List.{List}
use lib.ListN.{length}
use Rattle.units.specs.declared.Date.{Date}
use Rattle.units.specs.declared.Interval.{Interval}
use Rattle.units.specs.declared.TxData.{TxData}
use Rattle.units.specs.declared.Bundle.{Bundle}
use Rattle.units.specs.Limits.{segments_max}
use Rattle.units.specs.Logged.{Calls, State, RunsFrom}
use Rattle.units.proofs.Determined.{Met}
use Rattle.units.proofs.Tables.{Tables}
use Rattle.segmentation.specs.declared.RateSegment.{RateSegment}
use Rattle.segmentation.specs.declared.DelaySegment.{DelaySegment}
use Rattle.contact.specs.declared.Choices.{Choices}
use Rattle.contact.specs.Record.{strict_of}
use Rattle.pseg.specs.declared.PrioritySeg.{PrioritySeg}
use Rattle.pseg.specs.declared.Opened.{Opened}
use Rattle.pseg.specs.declared.Booked.{Booked}
use Rattle.pseg.specs.declared.Listing.{Listing}
use Rattle.pseg.specs.Record.{record_ok}
use Rattle.pseg.specs.Open.{open_of}
use Rattle.pseg.specs.DryRun.{dry_run_of, run_of, answer_to}
use Rattle.pseg.specs.Book.{book_of, booked_at, refused_booking}
use Rattle.pseg.specs.List.{list_of}
use Rattle.pseg.proofs.PrioritySeg.open.Reads as open-reads
use Rattle.pseg.proofs.PrioritySeg.dry_run.Reads as dry-run-reads
use Rattle.pseg.proofs.PrioritySeg.book.Reads as book-reads
use Rattle.pseg.proofs.PrioritySeg.list.Reads as list-reads

abbrev pub promised : Calls
promised =
    record {
      Manager = PrioritySeg;
      Booked = Booked;
      Listing = Listing;
      dry_run = λ r at b o. Met (dry-run-reads.Post tt (r, (at, (b, tt)))) o;
      book = λ r at b d a. Met (book-reads.Post tt (r, (at, (b, (d, tt))))) a;
      list = λ r o. Met (list-reads.Post tt (r, tt)) o;
      further = λ r a. ⊥;
      number = λ (a : Booked). a.number;
      after = λ (a : Booked). a.manager;
      shown = λ (o : Listing). o.number;
    }

unfoldable pub tables : Tables promised refused_booking
unfolding dry_run_of book_of
tables =
    record {
      kept = record_ok;
      strict = λ r. strict_of r.contact;
      answer = λ r at b. answer_to r (run_of r at.0 b);
      booked = λ r at b. booked_at r (run_of r at.0 b) b.priority.0;
      listing = list_of;
      dry-run-is = λ r at b o p. p.1;
      book-is = λ r at b d a p. p.1;
      list-is = λ r o p. p.1;
      refuse-number = λ n r. refl;
    }

-- each promise can be met
pub open-met : (h : Choices) (w : Interval) (rates : List RateSegment) (m : ℕ) (delays : List DelaySegment) (k : ℕ) → Met (open-reads.Post tt (h, (w, (rates, (m, (delays, (k, tt))))))) (open_of h w rates m delays k)
open-met h w rates m delays k = ((h, (w, (rates, (m, (delays, (k, tt)))))), refl)

pub dry-run-met : (r : PrioritySeg) (at : Date) (b : Bundle) → promised.dry_run r at b (dry_run_of r at b)
dry-run-met r at b = ((r, (at, (b, tt))), refl)

pub book-met : (r : PrioritySeg) (at : Date) (b : Bundle) (d : TxData) → promised.book r at b d (book_of r at b d)
book-met r at b d = ((r, (at, (b, (d, tt)))), refl)

pub list-met : (r : PrioritySeg) → promised.list r (list_of r)
list-met r = ((r, tt), refl)

-- an opening with these figures was accepted, and any calls, each on the record that the last one handed back, lead to y
pub record Reached (h : Choices) (w : Interval) (rates : List RateSegment) (m : ℕ) (delays : List DelaySegment) (k : ℕ) (y : State PrioritySeg) : Type 0 where
  pub opened : Opened
  pub rate-size : length rates ≡ segments_max
  pub delay-size : length delays ≡ segments_max
  pub met : Met (open-reads.Post tt (h, (w, (rates, (m, (delays, (k, tt))))))) opened
  pub accepted : opened.number ≡ 0
  pub runs : RunsFrom promised opened.manager y
