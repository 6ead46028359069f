-- A class's queue ends 16 digits on.
use Rattle.std.proofs.Common.{◌+◌, ap, sym}
use Rattle.text.proofs.Words.{word-length}
use Rattle.answer.proofs.rows.VolumeRow.put.Goals as goal

pub returns-clause-value : goal.returns-clause-value
returns-clause-value c = ap (λ n. c.args.at + n) (sym (word-length 8 _))
