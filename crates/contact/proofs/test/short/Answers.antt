-- `contact::test::short` meets its contract: `all` of the list.
use Rattle.std.proofs.Common.{rules}
use Rattle.std.proofs.lemmas.Iterator.{YieldsList-from_slice}
use Rattle.std.proofs.lemmas.Iterator.Search.{all_from_yields_List}
use mathlib.Core.Path.{◌∙◌}
use Rattle.contact.specs.Segments.{delay_ok}
use Rattle.contact.proofs.Told.{list-all}
use Rattle.contact.proofs.test.short.Goals as goal

pub returns : goal.returns
returns c =
    all_from_yields_List delay_ok _ _ _ c.all.ensures.ran (YieldsList-from_slice c.args.delays.now cc) (λ x b q k. search rules)
    ∙ list-all delay_ok c.args.delays.now
