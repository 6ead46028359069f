-- `poly_seg::PolySeg::search` meets its contract: a record that keeps its rules has what the search asks.
use mathlib.Core.Path.{◌∙◌}
use Rattle.poly_seg.proofs.Facts.{facts}
use Rattle.poly_seg.proofs.Counting.{size_small, counted-offer}
use Rattle.poly_seg.proofs.PolySeg.search.Goals as goal

pub terms-terms-requires : goal.terms-terms-requires
terms-terms-requires c = (facts _ c.requires.kept).range

pub listed-requires : goal.listed-requires
listed-requires c = (facts _ c.requires.kept).few

pub find_offer-requires-clause-ruled : goal.find_offer-requires-clause-ruled
find_offer-requires-clause-ruled c = rw (c.terms-terms.ensures.window, c.listed.ensures) (facts _ c.requires.kept).rules

pub find_offer-requires-clause-small : goal.find_offer-requires-clause-small
find_offer-requires-clause-small c =
    size_small c.args.self.now.choices.mode.0 c.args.self.now.polynome _ c.terms-terms.ensures.terms c.args.size.0 _ c.wanted.ensures c.requires.small

pub returns : goal.returns
returns c =
    (rw c.listed.ensures at c.find_offer.ensures)
    ∙ counted-offer c.args.self.now.choices.mode.0 c.args.self.now.polynome _ c.terms-terms.ensures.terms c.args.size.0 _ c.wanted.ensures _ _
