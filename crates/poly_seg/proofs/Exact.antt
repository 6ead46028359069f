-- 02, R-6, of the manager's offers: in mode 2 a send carries exactly the size, or it carries more and one tick earlier it carries less; and where its end is the first tick.
use Rattle.std.specs.Prelude.{Some}
use Prim.Native.Nat.{ℕ, ◌*◌, ◌≤◌}
use mathlib.Core.Bool.{true}
use mathlib.Core.Path.{◌≡◌}
use native.Mathlib.Omega.{arith}
use lib.ListN.{get_or}
use Rattle.units.specs.declared.Date.{Date}
use Rattle.units.specs.declared.Bundle.{Bundle}
use Rattle.units.specs.declared.Interval.{Interval}
use Rattle.units.specs.declared.TxData.{TxData}
use Rattle.units.specs.Answer.{offers}
use Rattle.segmentation.specs.declared.VolumeSegment.{VolumeSegment}
use Rattle.contact.specs.Segments.{zero_volume}
use Rattle.free_list.specs.Offer.{fit_at}
use Rattle.free_list.specs.Cut.{listed}
use Rattle.free_list.proofs.Offered.{AtPlace, place-get, listed_at}
use Rattle.poly.specs.Poly.{capacity_to}
use Rattle.poly.specs.Search.{find_end}
use Rattle.poly.specs.Exact.{Carries, First, NotBelow, Above}
use Rattle.poly.proofs.EndLaws.{find-end-inside}
use Rattle.poly.proofs.ExactLaws.{find-end-integral, find-end-tick}
use Rattle.poly.proofs.Modes.{wanted-exact}
use Rattle.poly_seg.specs.declared.PolySeg.{PolySeg}
use Rattle.poly_seg.specs.Record.{record_ok}
use Rattle.poly_seg.specs.DryRun.{capacity_of, size_of, dry_run_of, found_of}
use Rattle.poly_seg.proofs.Calls.{chosen-some, chosen-found}
use Rattle.poly_seg.proofs.Facts.{Facts, facts}
use Rattle.poly_seg.proofs.Picked.{Picked, offer-picked}

-- a listed segment in the window whose search has this end
record Ended (r : PolySeg) (v : ℕ) (send : Interval) (g : VolumeSegment) : Type 0 where
  from : r.window.start.0 ≤ g.start.0
  to : g.end.0 ≤ r.window.end.0
  ends : find_end (capacity_to 2 r.polynome) g.start.0 g.end.0 send.start.0 (12 * v) ≡ Some send.end

module _ (r : PolySeg) (mode : r.choices.mode.0 ≡ 2) where
  module _ (q : Facts r) (t v : ℕ) (size : 1 ≤ v) (i : ℕ) (send : Interval) (h : found_of r t v ≡ fit_at i send) where
    ended : AtPlace (Ended r v send) (listed r.free) i
    ended =
        listed_at (Picked (capacity_of r) t (size_of r v) send) (Ended r v send) _ _ _ (listed r.free) i
        (λ g a b k. record { from = a; to = b; ends = rw (wanted-exact v mode, mode) at k.ends })
        q.free (offer-picked (capacity_of r) t (size_of r v) send (listed r.free) i h)

    found : Ended r v send (get_or (listed r.free) i zero_volume)
    found = place-get (Ended r v send) (listed r.free) i ended

    pub found-exact : Carries r.polynome send.start.0 send.end.0 v
    found-exact = find-end-integral r.polynome _ _ send.start.0 v send.end size found.ends

    -- over the window the rate is not below 0 at half ticks and above 0 at ticks
    pub found_first : NotBelow r.polynome r.window.start.0 r.window.end.0 → Above r.polynome r.window.start.0 r.window.end.0
        → First r.polynome send.start.0 send.end.0 v
    found_first never always =
        let e = find-end-inside _ _ _ send.start.0 _ send.end (omega arith) found.ends in
        find-end-tick r.polynome _ _ send.start.0 v send.end size found.ends
        (λ k a b. never k (omega (arith, a, e.from, found.from)) (omega (arith, b, found.to)))
        (λ k a b. always k (omega (arith, a, e.from, found.from)) (omega (arith, b, found.to)))

  -- whatever dates a dry run offers
  module _ (at : Date) (b : Bundle) (d : TxData) (ok : record_ok r ≡ true) (same : offers (dry_run_of r at b) d ≡ true) where
    pub offer-exact : Carries r.polynome d.send.start.0 d.send.end.0 b.size.0
    offer-exact = found-exact (facts r ok) at.0 b.size.0 (chosen-some r at b ok d same) _ d.send (chosen-found r at b ok d same)

    pub offer-first : NotBelow r.polynome r.window.start.0 r.window.end.0 → Above r.polynome r.window.start.0 r.window.end.0
        → First r.polynome d.send.start.0 d.send.end.0 b.size.0
    offer-first = found_first (facts r ok) at.0 b.size.0 (chosen-some r at b ok d same) _ d.send (chosen-found r at b ok d same)
