-- `text::digit` meets its contract: 0 to 9, then a to f.
use Rattle.text.proofs.Words.{digit_at}
use Rattle.text.proofs.digit.Goals as goal

pub returns : goal.returns
returns c = digit_at _ _ c.requires c.from.ensures
