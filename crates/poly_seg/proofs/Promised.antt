-- The polynomial manager by what its calls promise in src/: its calls with a log, 01's tables of them, and what any calls from an opening on lead to.
use Prim.Native.Nat.{ℕ}
use mathlib.Core.Path.{◌≡◌, refl}
use mathlib.Core.List.{List}
use lib.ListN.{length}
use Rattle.units.specs.declared.Date.{Date}
use Rattle.units.specs.declared.Interval.{Interval}
use Rattle.units.specs.declared.TxData.{TxData}
use Rattle.units.specs.declared.Bundle.{Bundle}
use Rattle.units.specs.Limits.{segments_max}
use Rattle.units.specs.Logged.{Calls, State, RunsFrom}
use Rattle.units.proofs.Determined.{Met}
use Rattle.units.proofs.Tables.{Tables}
use Rattle.segmentation.specs.declared.DelaySegment.{DelaySegment}
use Rattle.poly.specs.declared.Polynome.{Polynome}
use Rattle.poly_seg.specs.declared.Choices.{Choices}
use Rattle.poly_seg.specs.declared.PolySeg.{PolySeg}
use Rattle.poly_seg.specs.declared.Opened.{Opened}
use Rattle.poly_seg.specs.declared.Booked.{Booked}
use Rattle.poly_seg.specs.declared.Listing.{Listing}
use Rattle.poly_seg.specs.Record.{strict_of, record_ok}
use Rattle.poly_seg.specs.Open.{open_of}
use Rattle.poly_seg.specs.DryRun.{dry_run_of, found_of, answer_to}
use Rattle.poly_seg.specs.Book.{book_of, booked_at, refused_booking}
use Rattle.poly_seg.specs.List.{list_of}
use Rattle.poly_seg.proofs.PolySeg.open.Reads as open-reads
use Rattle.poly_seg.proofs.PolySeg.dry_run.Reads as dry-run-reads
use Rattle.poly_seg.proofs.PolySeg.book.Reads as book-reads
use Rattle.poly_seg.proofs.PolySeg.list.Reads as list-reads

abbrev pub promised : Calls
promised =
    record {
      Manager = PolySeg;
      Booked = Booked;
      Listing = Listing;
      dry_run = λ r at b o. Met (dry-run-reads.Post tt (r, (at, (b, tt)))) o;
      book = λ r at b d a. Met (book-reads.Post tt (r, (at, (b, (d, tt))))) a;
      list = λ r o. Met (list-reads.Post tt (r, tt)) o;
      further = λ r a. ⊥;
      number = λ (a : Booked). a.number;
      after = λ (a : Booked). a.manager;
      shown = λ (o : Listing). o.number;
    }

unfoldable pub tables : Tables promised refused_booking
unfolding dry_run_of book_of
tables =
    record {
      kept = record_ok;
      strict = strict_of;
      answer = λ r at b. answer_to r (found_of r at.0 b.size.0);
      booked = λ r at b. booked_at r (found_of r at.0 b.size.0);
      listing = list_of;
      dry-run-is = λ r at b o p. p.1;
      book-is = λ r at b d a p. p.1;
      list-is = λ r o p. p.1;
      refuse-number = λ n r. refl;
    }

-- each promise can be met
pub open-met : (h : Choices) (w : Interval) (p : Polynome) (delays : List DelaySegment) (k : ℕ) → Met (open-reads.Post tt (h, (w, (p, (delays, (k, tt)))))) (open_of h w p delays k)
open-met h w p delays k = ((h, (w, (p, (delays, (k, tt))))), refl)

pub dry-run-met : (r : PolySeg) (at : Date) (b : Bundle) → promised.dry_run r at b (dry_run_of r at b)
dry-run-met r at b = ((r, (at, (b, tt))), refl)

pub book-met : (r : PolySeg) (at : Date) (b : Bundle) (d : TxData) → promised.book r at b d (book_of r at b d)
book-met r at b d = ((r, (at, (b, (d, tt)))), refl)

pub list-met : (r : PolySeg) → promised.list r (list_of r)
list-met r = ((r, tt), refl)

-- an opening with these figures was accepted, and any calls, each on the record that the last one handed back, lead to y
pub record Reached (h : Choices) (w : Interval) (p : Polynome) (delays : List DelaySegment) (k : ℕ) (y : State PolySeg) : Type 0 where
  pub opened : Opened
  pub delay-size : length delays ≡ segments_max
  pub met : Met (open-reads.Post tt (h, (w, (p, (delays, (k, tt)))))) opened
  pub accepted : opened.number ≡ 0
  pub runs : RunsFrom promised opened.manager y
