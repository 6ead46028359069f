-- Over any calls from an opening on: no two accepted sends of the polynomial manager share an instant, none shares one with a listed segment, and each is in the window.
use Prim.Native.Nat.{ℕ}
use mathlib.Core.Bool.{true}
use mathlib.Core.Path.{◌≡◌, ap, ◌∙◌}
use mathlib.Core.List.{List, [], ◌∷◌}
use Rattle.units.specs.declared.Date.{Date}
use Rattle.units.specs.declared.Interval.{Interval}
use Rattle.units.specs.declared.TxData.{TxData}
use Rattle.units.specs.declared.Bundle.{Bundle}
use Rattle.units.specs.Logged.{State, entry, Runs}
use Rattle.segmentation.specs.declared.DelaySegment.{DelaySegment}
use Rattle.free_list.specs.Cut.{listed, cut_of}
use Rattle.free_list.specs.Disjoint.{Disjoint}
use Rattle.free_list.proofs.CutList.{listed_in}
use Rattle.free_list.proofs.Log.{none-disjoint, cut-disjoint}
use Rattle.poly.specs.declared.Polynome.{Polynome}
use Rattle.poly_seg.specs.declared.Choices.{Choices}
use Rattle.poly_seg.specs.declared.PolySeg.{PolySeg}
use Rattle.poly_seg.specs.declared.Opened.{Opened}
use Rattle.poly_seg.specs.Record.{record_ok}
use Rattle.poly_seg.specs.Book.{book_of}
use Rattle.poly_seg.proofs.Facts.{facts, found-offered}
use Rattle.poly_seg.proofs.Kept.{opened-manager, Accepted, book-keeps}
use Rattle.poly_seg.proofs.Promised.{promised, Reached}
use Rattle.poly_seg.proofs.Runs.{run-booked, fresh-none, fresh_ok}

module _ (w : Interval) where
  -- what any calls keep of a record with this window
  record Keeping (x : State PolySeg) : Type 0 where
    pub ok : record_ok x.manager ≡ true
    pub same : x.manager.window ≡ w
    pub disjoint : Disjoint w (listed x.manager.free) x.log

  accepted-keeps : (x : State PolySeg) (q : Keeping x) (at : Date) (b : Bundle) (d : TxData) → Accepted x.manager at b d (book_of x.manager at b d)
      → Keeping (record { manager = (book_of x.manager at b d).manager; log = entry b d ∷ x.log })
  accepted-keeps x q at b d y =
      let fs = facts x.manager q.ok in
      let list = listed x.manager.free in
      let offer = found-offered x.manager fs at.0 b.size.0 y.some y.place d.send y.found in
      let cut = cut_of 1 [] list y.place d.send.start.0 d.send.end.0 0 in
      let now : listed (book_of x.manager at b d).manager.free ≡ cut = ap (λ (m : PolySeg). listed m.free) y.manager ∙ listed_in cut in
      record {
        ok = book-keeps x.manager at b d q.ok;
        same = ap (λ (m : PolySeg). m.window) y.manager ∙ q.same;
        disjoint = rw (now, ← q.same) (cut-disjoint 1 [] 0 x.manager.window (entry b d) 0 list y.place fs.free offer x.log (rw q.same q.disjoint));
      }

  run-keeping : (x y : State PolySeg) → Keeping x → Runs promised x y → Keeping y
  run-keeping = run-booked Keeping (λ x q. q.ok) accepted-keeps

pub reached-disjoint : {h : Choices} {w : Interval} {p : Polynome} {delays : List DelaySegment} {k : ℕ} {y : State PolySeg}
    → Reached h w p delays k y → Disjoint w (listed y.manager.free) y.log
reached-disjoint {h} {w} {p} {delays} {k} {y} q =
    let window : q.opened.manager.window ≡ w = ap (λ (o : Opened). o.manager.window) q.met.1 ∙ ap (λ (r : PolySeg). r.window) (opened-manager h w p delays k q.delay-size (fresh-none q)) in
    (run-keeping w _ y (record { ok = fresh_ok q; same = window; disjoint = none-disjoint w (listed q.opened.manager.free) }) q.runs).disjoint
