-- `contact::Contact::answer` meets its contract: the delays of a contact that keeps its rules are short.
use Rattle.segmentation.proofs.DelayLaws.{delays-short}
use Rattle.contact.proofs.Sound.{sound}
use Rattle.contact.proofs.Lookup.{all_short}
use Rattle.contact.proofs.Contact.answer.Goals as goal

pub delays-requires : goal.delays-requires
delays-requires c = (sound _ c.requires.kept).delays.1

pub answer-requires-clause-short : goal.answer-requires-clause-short
answer-requires-clause-short c =
    rw (c.find_delays-found.ensures, c.delays.ensures) (delays-short _ _ _ _ (all_short _ (sound _ c.requires.kept).brief))
