-- `poly_seg::delays_by` meets its contract.
use borrow.Author.Tests.{eq-eqb, ne_eqb}
use Rattle.poly_seg.proofs.Lookup.{by-second, by_first}
use Rattle.poly_seg.proofs.delays_by.Goals as goal

pub returns-then-rule-eq-SECOND : goal.returns-then-rule-eq-SECOND
returns-then-rule-eq-SECOND c = rw (by-second _ _ _ _ (eq-eqb _ 2 c.if-rule-eq-SECOND.true)) c.delays_are.ensures

pub returns-else-rule-eq-SECOND : goal.returns-else-rule-eq-SECOND
returns-else-rule-eq-SECOND c = rw (by_first _ _ _ _ (ne_eqb _ 2 c.if-rule-eq-SECOND.false)) c.delays_ok.ensures
