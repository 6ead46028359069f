-- `seg::FreeVolume::cut` meets its contract: a record that keeps its rules has what the list's cut asks, and its room fits what is cut.
use borrow.Author.Rules.{rules}
use mathlib.Core.Path.{◌≡◌}
use native.Mathlib.Omega.{arith}
use lib.ListN.{length, length-take}
use Rattle.units.specs.Limits.{listed_max}
use Rattle.contact.specs.Record.{edition_of, rates_of}
use Rattle.free_list.proofs.CutRoom.{cut-changes}
use Rattle.seg.specs.Book.{cut_free}
use Rattle.seg.proofs.Facts.{facts}
use Rattle.seg.proofs.RoomBounds.{cut-roomy}
use Rattle.seg.proofs.FreeVolume.cut.Goals as goal
use Rattle.seg.proofs.FreeVolume.cut.Goals.{Start}

size : (c : Start) → length c.args.self.free.segments ≡ listed_max
size c = search rules

pub rates-requires : goal.rates-requires
rates-requires c = (facts _ c.requires.fact_1).contact.rates.1

pub cut-requires : goal.cut-requires
cut-requires c =
    let p = c.requires in
    let q = facts _ p.fact_1 in
    let h = q.contact.rates in
    rw c.rates.ensures (record { few = simp length-take (omega arith); in_turn = record { from = _; run = q.contact.run }; inside = p.fact_2 })

pub returns : goal.returns
returns c =
    let a = c.args in
    let r = a.self in
    let p = c.requires in
    let is : c.cut.result ≡ cut_free r a.place a.send a.size.0 = rw c.rates.ensures at c.cut.ensures in
    record {
      fact_1 = is;
      fact_2 = rw is
          (cut-changes (edition_of r.contact) (rates_of r.contact) r.free a.place a.send.start.0 a.send.end.0 a.size.0 r.room.0 (size (goal.at.returns c).Start) p.fact_2 (cut-roomy r p.fact_1 a.place a.send a.size.0));
    }
