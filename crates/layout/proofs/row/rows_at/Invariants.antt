-- `layout::row::rows_at` meets its contract: one row more at each turn.
use Rattle.std.proofs.Common.{◌≡◌, min}
use Rattle.units.specs.Arrays.{padded}
use Rattle.layout.specs.Segments.{rows}
use Rattle.layout.proofs.row.rows_at.Given as goal

abbrev pub invariant-loop-i : goal.invariant-loop-i
invariant-loop-i g l = l.row-items ≡ padded (min g.row.N l.n) g.T.Row.none (rows (g.T.Row.row_at l.line) g.T.Row.BYTES l.at l.i)
