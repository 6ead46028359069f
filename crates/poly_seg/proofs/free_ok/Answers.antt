-- `poly_seg::free_ok` meets its contract: the count, the segments used, then the places that are not.
use borrow.Author.Rules.{rules}
use mathlib.Core.Path.{◌≡◌, sym, ap, ◌∙◌}
use lib.Dec.{leb}
use Rattle.units.specs.Limits.{listed_max}
use Rattle.units.specs.Logic.{both, all_of}
use Rattle.units.proofs.Logic.{both_go, both-stop}
use Rattle.contact.specs.Segments.{no_volume}
use Rattle.contact.proofs.Told.{rest-of}
use Rattle.poly_seg.proofs.Facts.{free-counted}
use Rattle.poly_seg.proofs.free_ok.Goals as goal
use Rattle.poly_seg.proofs.free_ok.Goals.{then-contains, else-contains}

pub returns-then-bare_ok : goal.returns-then-bare_ok
unfolding both
returns-then-bare_ok c =
    let t : c.contains.result ≡ both (leb 1 c.args.free.now.count) (leb c.args.free.now.count listed_max) = search rules in
    elim c.if-contains.branch [
      | then-contains w ↦
          c.unused.ensures ∙ ap (all_of no_volume) (rest-of listed_max _ c.args.free.now.segments (search rules))
          ∙ sym (free-counted _ _ ∙ both_go _ _ (sym t ∙ w.if-contains.true) ∙ both_go _ _ (sym (rw w.listed.ensures at w.bare_ok.ensures) ∙ sym w.value-is ∙ c.if-bare_ok.true))
      | else-contains w ↦ absurd cc
    ]

pub returns-else-bare_ok : goal.returns-else-bare_ok
unfolding both
returns-else-bare_ok c =
    let t : c.contains.result ≡ both (leb 1 c.args.free.now.count) (leb c.args.free.now.count listed_max) = search rules in
    c.if-bare_ok.false ∙ sym (free-counted _ _ ∙ elim c.if-contains.branch [
      | then-contains w ↦ both_go _ _ (sym t ∙ w.if-contains.true) ∙ both-stop _ _ (sym (rw w.listed.ensures at w.bare_ok.ensures) ∙ sym w.value-is ∙ c.if-bare_ok.false)
      | else-contains w ↦ both-stop _ _ (sym t ∙ w.if-contains.false)
    ])
