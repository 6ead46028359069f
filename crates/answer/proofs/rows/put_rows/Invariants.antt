-- `answer::rows::put_rows` meets its contract. The invariant: the rows so far stand in the line, and the next begins where they end.
use Rattle.std.proofs.Common.{◌≡◌, ◌+◌, ◌*◌, ◌≤◌, length}
use Rattle.text.specs.Line.{written}
use Rattle.answer.proofs.Turns.{so_far}
use Rattle.answer.proofs.rows.put_rows.Given as goal

abbrev pub invariant-loop-row : goal.invariant-loop-row
invariant-loop-row g l = record {
  place : l.at ≡ 4 + length (so_far g.R.Row.text l.rows l.row-index);
  line : l.out ≡ written l.initial.out 4 (so_far g.R.Row.text l.rows l.row-index);
  within : l.at ≤ 4 + 48 * l.row-index;
}
