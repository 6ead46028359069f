-- `seg::FreeVolume::ok` meets its contract: a contact that keeps its rules has what the walk asks.
use borrow.Author.Rules.{rules}
use Prim.Native.Nat.{◌≤◌}
use mathlib.Core.Bool.{true}
use mathlib.Core.Path.{◌≡◌, sym, ap, ◌∙◌}
use native.Mathlib.Omega.{arith}
use lib.Dec.{leb}
use lib.ListN.{length, length-take}
use borrow.Author.Tests.{le-leb}
use Rattle.units.specs.Logic.{both, all_of}
use Rattle.units.specs.Limits.{segments_max, listed_max}
use Rattle.units.proofs.Logic.{both_go, both-stop, both_yes}
use Rattle.contact.specs.Segments.{no_volume}
use Rattle.contact.specs.Record.{contact_ok}
use Rattle.contact.proofs.Sound.{sound}
use Rattle.contact.proofs.Told.{rest-whole}
use Rattle.seg.proofs.Facts.{record_is}
use Rattle.seg.proofs.FreeVolume.ok.Goals as goal
use Rattle.seg.proofs.FreeVolume.ok.Goals.{Start, then-ok, else-ok, then-contains, else-contains}

size : (c : Start) → length c.args.self.contact.rates ≡ segments_max
size c = search rules

pub rates-requires : goal.rates-requires
rates-requires c =
    let k : contact_ok c.args.self.contact ≡ true = search rules in (sound _ k).rates.1

pub listed_ok-requires-clause-some : goal.listed_ok-requires-clause-some
listed_ok-requires-clause-some c =
    let k : contact_ok c.args.self.contact ≡ true = search rules in
    let h = (sound _ k).rates in
    let l = size (goal.at.listed_ok-requires-clause-some c).Start in
    rw c.rates.ensures (simp length-take (omega arith))

pub listed_ok-requires-clause-windowed : goal.listed_ok-requires-clause-windowed
listed_ok-requires-clause-windowed c =
    let k : contact_ok c.args.self.contact ≡ true = search rules in
    let q = sound _ k in
    rw c.rates.ensures (record { run = q.run; last = q.close })

pub returns-then-listed_ok : goal.returns-then-listed_ok
returns-then-listed_ok c =
    let s = c.args.self in
    let k : contact_ok c.args.self.contact ≡ true = search rules in
    let some : 1 ≤ c.args.self.free.count = search rules in
    let few : c.args.self.free.count ≤ listed_max = search rules in
    c.unused.ensures ∙ ap (all_of no_volume) (rest-whole s.free.count s.free.segments)
    ∙ sym (record_is s ∙ both_go _ _ k ∙ both_go _ _ (both_yes _ _ (le-leb _ _ some) (le-leb _ _ few)) ∙ both_go _ _ (elim c.if-contains.branch [
      | then-contains w ↦ sym (rw (w.rates.ensures, w.listed.ensures) at w.listed_ok.ensures) ∙ sym w.value-is ∙ c.if-listed_ok.true
      | else-contains w ↦ absurd cc
    ]))

pub returns-else-listed_ok : goal.returns-else-listed_ok
unfolding both
returns-else-listed_ok c =
    let s = c.args.self in
    elim c.if-contains.branch [
      | then-contains w ↦
          let k : contact_ok c.args.self.contact ≡ true = search rules in
          let some : 1 ≤ c.args.self.free.count = search rules in
          let few : c.args.self.free.count ≤ listed_max = search rules in
          c.if-listed_ok.false
          ∙ sym (record_is s ∙ both_go _ _ k ∙ both_go _ _ (both_yes _ _ (le-leb _ _ some) (le-leb _ _ few)) ∙ both-stop _ _ (sym (rw (w.rates.ensures, w.listed.ensures) at w.listed_ok.ensures) ∙ sym w.value-is ∙ c.if-listed_ok.false))
      | else-contains w ↦ elim c.if-ok.branch [
        | then-ok v ↦
            let counted : v.contains.result ≡ both (leb 1 c.args.self.free.count) (leb c.args.self.free.count listed_max) = search rules in
            c.if-listed_ok.false ∙ sym (record_is s ∙ both_go _ _ (sym c.ok.ensures ∙ v.if-ok.true) ∙ both-stop _ _ (sym counted ∙ sym v.value-is ∙ w.if-contains.false))
        | else-ok v ↦ c.if-listed_ok.false ∙ sym (record_is s ∙ both-stop _ _ (sym c.ok.ensures ∙ v.if-ok.false))
      ]
    ]
