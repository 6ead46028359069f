-- `legacy::volumes::hold` meets its contract.
use borrow.Author.Rules.{rules}
use borrow.Author.Tests.{tests}
use Rattle.std.proofs.lemmas.Iterator.{YieldsList-from_slice}
use Rattle.legacy.specs.Open.{at_least}
use Rattle.legacy.proofs.All.{all-told}
use Rattle.legacy.proofs.volumes.hold.Goals as goal

pub returns : goal.returns
returns c = all-told (at_least c.args.size.0) _ _ c.all.ensures.ran (YieldsList-from_slice _ cc) (λ x b q k. search (rules, tests))
