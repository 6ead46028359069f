-- What a cut where the list stands makes of a booking of the polynomial manager, done or refused: its number and the record.
use mathlib.Core.Bool.{true}
use mathlib.Core.Path.{◌≡◌, sym, ap, ◌∙◌}
use Rattle.units.specs.declared.Date.{Date}
use Rattle.units.specs.declared.TxData.{TxData}
use Rattle.units.specs.declared.Bundle.{Bundle}
use Rattle.units.specs.Granted.{refusal_of}
use Rattle.free_list.specs.declared.Cut.{Cut}
use Rattle.poly_seg.specs.declared.PolySeg.{PolySeg}
use Rattle.poly_seg.specs.declared.Booked.{Booked}
use Rattle.poly_seg.specs.Record.{strict_of, record_ok}
use Rattle.poly_seg.specs.Book.{book_of, with_free, cut_free}
use Rattle.poly_seg.specs.Granted.{chosen_of}
use Rattle.poly_seg.proofs.Calls.{chosen-done}

-- a cut's answer as a booking's
abbrev pub by-cut : PolySeg → Cut → Booked
by-cut r x = record { number = x.number; manager = with_free r x.list }

pub cut-booked : (r : PolySeg) (at : Date) (b : Bundle) (d : TxData) (ok : record_ok r ≡ true) → refusal_of (strict_of r) (chosen_of r at b).offer d ≡ 0
    → (x : Cut) → x ≡ cut_free r (chosen_of r at b).place d.send → by-cut r x ≡ book_of r at b d
cut-booked r at b d ok none x is = ap (by-cut r) is ∙ sym (chosen-done r at b ok d none).0
