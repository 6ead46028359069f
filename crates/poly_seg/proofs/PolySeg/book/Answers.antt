-- `poly_seg::PolySeg::book` meets its contract: the record's test, then the booking on a record that keeps its rules.
use mathlib.Core.Path.{sym, ◌∙◌}
use Rattle.units.proofs.Choice.{told-yes, told-no}
use Rattle.poly_seg.proofs.Calls.{book-record}
use Rattle.poly_seg.proofs.PolySeg.book.Goals as goal

pub returns-then-not-ok : goal.returns-then-not-ok
returns-then-not-ok c =
    c.refused_booking.ensures ∙ sym (book-record _ _ _ _ (told-no c.ok.ensures c.if-not-ok.true))

pub book_kept-requires : goal.book_kept-requires
book_kept-requires c = told-yes c.ok.ensures c.if-not-ok.false

pub returns : goal.returns
returns c = c.book_kept.ensures
