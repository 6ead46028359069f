-- `bookings::Search::find_run` meets its contract. The invariant: what is left of the list, searched with the run so far, answers as the whole.
use Rattle.std.proofs.Common.{◌≡◌, drop}
use Rattle.std.specs.Prelude.{None}
use Rattle.std.specs.declared.ops.ControlFlow.TheVariants.{Continue}
use Rattle.bookings.specs.Search.{rule_of, search_of}
use Rattle.bookings.proofs.Search.find_run.Given as goal

abbrev pub invariant-loop-g : goal.invariant-loop-g
invariant-loop-g l =
    let E = rule_of l.self.edition.0 l.self.rates.now l.self.size.0 l.self.window.end.0 in
    search_of E l.self.asked.0 l.self.priority.0 l.fn.segments (Continue None) ≡ search_of E l.self.asked.0 l.self.priority.0 (drop l.g-index l.segments) (Continue l.run)
