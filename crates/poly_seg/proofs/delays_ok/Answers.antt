-- `poly_seg::delays_ok` meets its contract: the count, then each segment.
use Rattle.std.proofs.Common.{rules}
use Rattle.std.proofs.lemmas.Iterator.{YieldsList-from_slice}
use Rattle.std.proofs.lemmas.Iterator.Search.{all_from_yields_List}
use Prim.Native.Nat.{◌<◌, ◌≤◌}
use mathlib.Core.Path.{◌≡◌, sym, ◌∙◌}
use mathlib.Core.Logic.{⊎_elim}
use native.Mathlib.Omega.{arith}
use lib.ListN.{length, take}
use borrow.Author.Tests.{le-leb, lt-leb}
use Rattle.units.specs.Limits.{segments_max}
use Rattle.units.specs.Logic.{all_of}
use Rattle.units.proofs.Logic.{both_go, both-stop}
use Rattle.contact.proofs.Told.{list-all, some-if}
use Rattle.poly_seg.specs.Open.{delay_ok, delays_ok}
use Rattle.poly_seg.proofs.Told.{front}
use Rattle.poly_seg.proofs.delays_ok.Goals as goal

pub returns-in_err-list : goal.returns-in_err-list
unfolding delays_ok
returns-in_err-list c =
    let long : length c.args.delays.now ≡ segments_max = search rules in
    let many : segments_max < c.args.count =
    ⊎_elim
    (λ (z : c.args.count < 0). absurd (omega arith))
    (λ (z : length c.args.delays.now < c.args.count). omega (arith, long))
    c.in_err-list.ensures.lookup.0
    in
    rw c.from_residual.ensures (both-stop _ _ (lt-leb _ _ many))

pub returns : goal.returns
unfolding delays_ok
returns c =
    let h = c.in_ok-list.ensures.lookup.0 in
    let long : length c.args.delays.now ≡ segments_max = search rules in
    let few : c.args.count ≤ segments_max = omega (arith, h.1, long) in
    let used : c.in_ok-list.list.now ≡ take c.args.count c.args.delays.now = h.2 ∙ front _ _ in
    let each : c.all.result ≡ all_of delay_ok c.in_ok-list.list.now =
    all_from_yields_List delay_ok _ _ _ c.all.ensures.ran (YieldsList-from_slice c.in_ok-list.list.now cc) (λ x b q k. search rules)
    ∙ list-all delay_ok c.in_ok-list.list.now
    in
    rw c.then_some.ensures
    (some-if (λ l. l.now ≡ take c.args.count c.args.delays.now) _ _ _ (rw used at each ∙ sym (both_go _ _ (le-leb _ _ few))) used)
