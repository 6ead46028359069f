-- `text::put_number` meets its contract: what is left of the bytes is still to be written.
use Rattle.std.proofs.Common.{◌≡◌, ◌+◌, ◌*◌, drop}
use Rattle.text.specs.Text.{byte_text, list_text}
use Rattle.text.specs.Line.{written}
use Rattle.text.proofs.put_number.Given as goal

abbrev pub invariant-loop-i : goal.invariant-loop-i
invariant-loop-i l =
    written l.fn.out l.fn.at (list_text byte_text l.byte-items) ≡ written l.out (l.fn.at + 2 * l.i) (list_text byte_text (drop l.i l.byte-items))
