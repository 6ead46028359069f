-- `segmentation::find_end` meets its contract: what is left of the list, at the present date and rest, has the end that is asked.
use Rattle.std.proofs.Common.{ℕ, ◌-◌, ◌<◌, ◌≤◌, get_or, arith}
use mathlib.Core.Path.{sym, ap, ◌∙◌}
use Rattle.units.specs.declared.Date.{Date}
use Rattle.units.specs.declared.Volume.{Volume}
use Rattle.units.proofs.Compare.{le-yes, le-not}
use Rattle.units.proofs.Loop.{at-whole}
use Rattle.segmentation.specs.declared.VolumeSegment.{VolumeSegment}
use Rattle.segmentation.specs.End.{by_deadline}
use Rattle.segmentation.proofs.Segment.{share-low}
use Rattle.segmentation.proofs.RateLoop.{seek-first, seek-none, seek_ok, seek-from, seek-here, seek-skip, seek-on}
use Rattle.segmentation.proofs.find_end.Goals as goal
use Rattle.segmentation.proofs.find_end.Goals.{Then-le, After-loop-s, then-le+else-le-2, else-le}

abbrev zero_volume : VolumeSegment
zero_volume = record { start = record { 0 = 0 }; end = record { 0 = 0 }; volume = record { 0 = 0 } }

pub loop-s-init : goal.loop-s-init
loop-s-init c = seek-first _ _ _ _ _ _ c.requires.sized c.requires.covered

pub returns-after-loop-s : goal.returns-after-loop-s
returns-after-loop-s c = sym (seek-none _ _ _ _ _ _ _ _ _ c.loop-s.invariant c.loop-s-test.false)

pub carried-here-requires : goal.carried-here-requires
carried-here-requires c =
    let q = c.loop-s.invariant in
    let here = at-whole _ _ zero_volume c.loop-s-test.true in
    record { whole = seek_ok _ _ _ _ _ _ _ _ _ _ q here; inside = (seek-from _ _ _ _ _ _ _ _ _ _ q here, le-yes _ _ _ c.le.ensures c.if-le.true) }

pub sent-requires : goal.sent-requires
sent-requires c =
    let q = c.loop-s.invariant in
    let here = at-whole _ _ zero_volume c.loop-s-test.true in
    let ok = seek_ok _ _ _ _ _ _ _ _ _ _ q here in
    let from = seek-from _ _ _ _ _ _ _ _ _ _ q here in
    let s : VolumeSegment = get_or c.args.rates.now c.loop-s.s-index zero_volume in
    let by : c.loop-s.at.0 ≤ s.end.0 = le-yes _ _ _ c.le.ensures c.if-le.true in
    let fits : c.loop-s.rest.0 ≤ c.carried-here.result.0 = le-yes _ _ _ c.le-then-le.ensures c.if-le-2.true in
    let low = share-low s ok (s.end.0 - c.loop-s.at.0) (omega (arith, from)) in
    record { whole = ok; carried = (by, (q.some, omega (arith, c.carried-here.ensures, fits, low))) }

pub loop-s-preserved : goal.loop-s-preserved
loop-s-preserved c =
    let q = c.loop-s.invariant in
    let here = at-whole _ _ zero_volume c.loop-s-test.true in
    elim c.if-le.branch [
      | then-le+else-le-2 w ↦
          let more : w.carried-here.result.0 < c.loop-s.rest.0 = le-not _ _ _ w.le-then-le.ensures w.if-le-2.false in
          seek-on _ _ _ _ _ _ _ _ _ _ q here c.loop-s-test.true _ _ (le-yes _ _ _ c.le.ensures w.if-le.true) (omega (arith, w.carried-here.ensures, more)) (ap (λ (x : Date). x.0) w.at-is) (omega (arith, w.carried-here.ensures, ap (λ (x : Volume). x.0) w.rest-is))
      | else-le w ↦ seek-skip _ _ _ _ _ _ _ _ _ _ q here c.loop-s-test.true _ _ (le-not _ _ _ c.le.ensures w.if-le.false) (ap (λ (x : Date). x.0) w.at-is) (ap (λ (x : Volume). x.0) w.rest-is)
    ]

pub returns-then-le-2 : goal.returns-then-le-2
returns-then-le-2 c =
    let fits : c.loop-s.rest.0 ≤ c.carried-here.result.0 = le-yes _ _ _ c.le-then-le.ensures c.if-le-2.true in
    c.by_deadline.ensures
    ∙ ap (λ (x : ℕ). by_deadline c.args.deadline.0 x) c.sent.ensures
    ∙ sym (seek-here _ _ _ _ _ _ _ _ _ _ c.loop-s.invariant (at-whole _ _ zero_volume c.loop-s-test.true) (le-yes _ _ _ c.le.ensures c.if-le.true)
    (omega (arith, c.carried-here.ensures, fits)))
