-- 01, "Records", Bookings: of any answer that the promise of a list allows, on any record, each level that is listed is from 0 to 128.
use mathlib.Core.Bool.{Bool, true}
use mathlib.Core.Path.{◌≡◌, ap, ◌∙◌}
use mathlib.Core.List.{List, [], ◌∷◌}
use lib.Dec.{leb}
use borrow.Author.Tests.{le-leb}
use Prim.Native.Nat.{ℕ}
use Rattle.units.specs.Logic.{all_of}
use Rattle.units.proofs.Determined.{Met}
use Rattle.units.proofs.Logic.{unless-keeps, all_go, all_none}
use Rattle.bookings.specs.declared.BookingSegment.{BookingSegment}
use Rattle.bookings.specs.declared.Bookings.{Bookings}
use Rattle.bookings.specs.Listed.{level_max, listed}
use Rattle.bookings.proofs.CoverLaws.{Cover, cover-of}
use Rattle.pseg.specs.declared.PrioritySeg.{PrioritySeg}
use Rattle.pseg.specs.declared.Listing.{Listing}
use Rattle.pseg.specs.Record.{record_ok}
use Rattle.pseg.specs.List.{list_of}
use Rattle.bookings.proofs.CutLoop.{listed_in}
use Rattle.pseg.proofs.Facts.{facts}
use Rattle.pseg.proofs.PrioritySeg.list.Reads as list-reads

-- the segment's level is from 0 to 128
abbrev pub in_range : BookingSegment → Bool
in_range s = leb s.level.0 level_max

-- so is each that is listed
abbrev pub AllInRange : Bookings → Type 0
AllInRange l = all_of in_range (listed l) ≡ true

cover-range : (a b : ℕ) (f : List BookingSegment) → Cover a b f → all_of in_range f ≡ true
unfolding Cover
cover-range a b [] q = all_none in_range
cover-range a b (g ∷ f) q = all_go in_range g f (le-leb _ _ q.2) ∙ cover-range g.end.0 b f q.3

pub list-levels : (r : PrioritySeg) (l : Listing) → Met (list-reads.Post tt (r, tt)) l → AllInRange l.list
unfolding list_of
list-levels r l p =
    rw p.1
    (unless-keeps (λ (x : Listing). AllInRange x.list) (record_ok r) _ _ (λ e. ap (all_of in_range) (listed_in []) ∙ all_none in_range)
    (λ e. cover-range _ _ (listed r.bookings) (cover-of _ _ _ (facts r e).cover)))
