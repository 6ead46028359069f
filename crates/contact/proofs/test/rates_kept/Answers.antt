-- `contact::test::rates_kept` meets its contract: what is used, then what is not.
use Rattle.std.proofs.Common.{sym, ap, ◌∙◌, rules}
use Rattle.units.specs.Limits.{segments_max}
use Rattle.units.specs.Logic.{all_of}
use Rattle.contact.specs.Segments.{no_volume}
use Rattle.contact.proofs.Told.{rest-of}
use Rattle.units.proofs.Logic.{both_go, both-stop}
use Rattle.contact.proofs.Records.{volumes-no, volumes-are}
use Rattle.contact.proofs.test.rates_kept.Goals as goal

pub returns-then-volumes_ok : goal.returns-then-volumes_ok
returns-then-volumes_ok c =
    let h = c.in-Some.ensures in
    c.unused.ensures ∙ ap (all_of no_volume) (rest-of segments_max _ c.args.rates.now (search rules)) ∙ sym (both_go _ _ (volumes-are _ _ _ h.0 h.1 ∙ sym (rw h.2 at c.volumes_ok.ensures) ∙ c.if-volumes_ok.true))

pub returns-else-volumes_ok : goal.returns-else-volumes_ok
returns-else-volumes_ok c =
    let h = c.in-Some.ensures in
    c.if-volumes_ok.false ∙ sym (both-stop _ _ (volumes-are _ _ _ h.0 h.1 ∙ sym (rw h.2 at c.volumes_ok.ensures) ∙ c.if-volumes_ok.false))

pub returns-in-None : goal.returns-in-None
returns-in-None c = sym (both-stop _ _ (volumes-no _ _ _ c.in-None.ensures))
