-- `hexadecimal::number_at` meets its contract: nothing past the end, else the digits that the line has.
use Rattle.std.proofs.Common.{sym, ap, ◌∙◌, arith}
use Rattle.hexadecimal.specs.Granted.{folded_of}
use Rattle.hexadecimal.proofs.Numbers.{word-past}
use Rattle.hexadecimal.proofs.Pairs.{values_small, number-values}
use Rattle.hexadecimal.proofs.number_at.Goals as goal

pub returns-then-bytes-at : goal.returns-then-bytes-at
returns-then-bytes-at c = sym (word-past _ 8 _ (omega arith))

pub folded-requires : goal.folded-requires
folded-requires c = rw c.values.ensures (values_small _)

pub returns : goal.returns
returns c =
    let s = c.args in
    c.folded.ensures ∙ ap folded_of c.values.ensures ∙ number-values s.line.now s.at _ (omega arith)
