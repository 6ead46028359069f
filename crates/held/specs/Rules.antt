-- 01, "Records": what is held keeps the rules of its manager's record; nothing at all keeps them too.
use Rattle.std.specs.Prelude.{Bool, true}
use Rattle.seg.specs.Record.{record_ok as free_ok}
use Rattle.pseg.specs.Record.{record_ok as priority_ok}
use Rattle.poly_seg.specs.Record.{record_ok as polynomial_ok}
use Rattle.legacy.specs.Record.{record_ok as queue_ok}
use Rattle.held.specs.declared.Held.{Held}
use Rattle.held.specs.declared.Held.TheVariants.{Nothing, Free, Priority, Polynomial, Queue}

abbrev pub held_ok : Held → Bool
held_ok Nothing = true
held_ok (Free r) = free_ok r
held_ok (Priority r) = priority_ok r
held_ok (Polynomial r) = polynomial_ok r
held_ok (Queue r) = queue_ok r
