-- 02, R-7: every accepted send of a strict record holds an instant, and so has any under edition 2; as they share none, there are at most as many as the pass has ticks.
use Prim.Native.Nat.{ℕ, zero, suc, ◌+◌, ◌-◌, ◌<◌, ◌≤◌}
use mathlib.Core.Bool.{Bool, true, false}
use mathlib.Core.Path.{◌≡◌, refl, sym, ap, ◌∙◌}
use mathlib.Core.List.{List, [], ◌∷◌}
use mathlib.Core.Logic.{◌⊎◌}
use native.Mathlib.Omega.{arith}
use lib.ListN.{length}
use Rattle.units.specs.Limits.{segments_max}
use Rattle.units.specs.declared.Date.{Date}
use Rattle.units.specs.declared.Interval.{Interval}
use Rattle.units.specs.declared.TxData.{TxData}
use Rattle.units.specs.declared.Bundle.{Bundle}
use Rattle.units.specs.Logic.{pick}
use Rattle.units.proofs.Determined.{Met}
use Rattle.segmentation.specs.declared.RateSegment.{RateSegment}
use Rattle.segmentation.specs.declared.DelaySegment.{DelaySegment}
use Rattle.contact.specs.declared.Choices.{Choices}
use Rattle.contact.specs.declared.Contact.{Contact}
use Rattle.contact.specs.Open.{contact_of}
use Rattle.contact.specs.Record.{Lasts}
use Rattle.contact.proofs.Lasting.{lasts-holds}
use Rattle.seg.specs.declared.FreeVolume.{FreeVolume}
use Rattle.seg.specs.declared.Opened.{Opened}
use Rattle.seg.specs.Record.{record_ok}
use Rattle.seg.specs.Book.{book_of}
use Rattle.seg.proofs.Facts.{facts, found_inside}
use Rattle.seg.proofs.Kept.{opened-keeps, opened-manager, Accepted, book-keeps}
use Rattle.seg.proofs.Second.{found_after}
use Rattle.seg.proofs.FreeVolume.open.Reads as open-reads
use Rattle.demand.specs.Calls.{Booking, State, Runs}
use Rattle.demand.specs.Instants.{Pairwise, AllIn, held_at}
use Rattle.demand.specs.Strict.{AllHold}
use Rattle.demand.proofs.Held.{sum_by, held_by, each_by, held-each}
use Rattle.demand.proofs.Demand.{promised, run-accepted, demand-3}

-- each tick weighs one
abbrev one : ℕ → ℕ
one t = 1

sum_one : (a n : ℕ) → sum_by one a n ≡ n
unfolding sum_by
sum_one a zero = refl
sum_one a (suc n) = omega (arith, sum_one a n)

at_most_one : (c : Bool) → pick {A = ℕ} c 1 0 ≤ 1
at_most_one true = omega arith
at_most_one false = omega arith

held-most : (log : List Booking) (a n : ℕ) → held_by one log a n ≤ n
unfolding held_by
held-most log a zero = omega arith
held-most log a (suc n) = omega (arith, held-most log a n, at_most_one (held_at log (a + n)))

each-least : (log : List Booking) → AllHold log → length log ≤ each_by one log
unfolding AllHold each_by
each-least [] h = omega arith
each-least (b ∷ log) h = omega (arith, h.0, sum_one b.send.start.0 (b.send.end.0 - b.send.start.0), each-least log h.1)

-- bookings that hold an instant each and share none are at most as many as the ticks
pub few : (w : Interval) (log : List Booking) → AllIn w log → Pairwise log → AllHold log → length log ≤ w.end.0 - w.start.0
few w log i p h = omega (arith, each-least log h, held-each one w log i p, held-most log w.start.0 (w.end.0 - w.start.0))

-- where every send lasts, an accepted one holds an instant
accepted-holds : (r : FreeVolume) (at : Date) (b : Bundle) (d : TxData) → record_ok r ≡ true → Lasts r.contact → Accepted r at b d (book_of r at b d) → d.send.start.0 < d.send.end.0
accepted-holds r at b d ok last x =
    let q = facts r ok in
    lasts-holds r.contact d.send last (found_inside r q at.0 b.size.0 x.some x.place d.send x.found).1 x.allowed
    (λ two. found_after r q two at.0 b.size.0 x.some x.place d.send x.found)

-- what any calls keep of such a record
record Holding (c : Contact) (x : State) : Type 0 where
  ok : record_ok x.manager ≡ true
  same : x.manager.contact ≡ c
  holds : AllHold x.log

run_holds : (c : Contact) → Lasts c → (x y : State) → Holding c x → Runs promised x y → Holding c y
unfolding AllHold
run_holds c last =
    run-accepted (Holding c) (λ x q. q.ok)
    (λ x q at b d k.
    record {
      ok = book-keeps x.manager at b d q.ok;
      same = ap (λ (m : FreeVolume). m.contact) k.manager ∙ q.same;
      holds = (accepted-holds x.manager at b d q.ok (rw q.same last) k, q.holds);
    })

-- from a fresh opening on, whatever is called and answered
pub strict-few : (h : Choices) (w : Interval) (rates : List RateSegment) (m : ℕ) (delays : List DelaySegment) (k : ℕ) (o : Opened) (y : State)
    → length rates ≡ segments_max → length delays ≡ segments_max
    → Met (open-reads.Post tt (h, (w, (rates, (m, (delays, (k, tt))))))) o → o.number ≡ 0
    → Runs promised (record { manager = o.manager; log = [] }) y
    → (h.strict.0 ≡ 1) ⊎ (h.edition.0 ≡ 2)
    → (AllHold y.log) × (length y.log ≤ w.end.0 - w.start.0)
unfolding AllHold
strict-few h w rates m delays k o y rate-size delay-size p done runs last =
    let is = p.1 in
    let none = sym (ap (λ (x : Opened). x.number) is) ∙ done in
    let c = contact_of h w rates m delays k in
    let ok : record_ok o.manager ≡ true = rw is (opened-keeps h w rates m delays k rate-size delay-size none) in
    let named : o.manager.contact ≡ c = ap (λ (x : Opened). x.manager.contact) is ∙ ap (λ (x : FreeVolume). x.contact) (opened-manager h w rates m delays k rate-size delay-size none).1 in
    let q = run_holds c last _ y (record { ok = ok; same = named; holds = tt }) runs in
    let demand = demand-3 h w rates m delays k o y rate-size delay-size p done runs in
    (q.holds, few w y.log (rw q.same at demand.inside) demand.apart q.holds)
