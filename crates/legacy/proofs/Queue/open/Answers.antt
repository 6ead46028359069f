-- `legacy::Queue::open` meets its contract: an opening by its number.
use borrow.Author.Rules.{rules}
use mathlib.Core.Path.{◌≡◌, sym, ◌∙◌}
use Rattle.legacy.specs.declared.Opened.{Opened}
use Rattle.legacy.specs.Open.{zeros, refused_opening}
use Rattle.units.specs.Refusal.{number_of}
use Rattle.legacy.proofs.Found.{default-zero, opens, opens_not}
use Rattle.legacy.proofs.Queue.open.Goals as goal

pub returns-in-Ok : goal.returns-in-Ok
returns-in-Ok c =
    let none : c.default-zero.result.queues ≡ zeros = search (rules, default-zero) in
    rw none (sym (opens _ _ _ _ _ _ _ c.in-Ok.ensures))

pub returns-in-Err : goal.returns-in-Err
returns-in-Err c =
    let m = c.default-zero.result in
    let queues : m.queues ≡ zeros = search (rules, default-zero) in
    let budgets : m.budgets ≡ zeros = search (rules, default-zero) in
    let zero : ◌≡◌ {A = Opened} (record { number = c.number.result; manager = m }) (refused_opening (number_of c.in-Err.refusal)) = search rules in
    zero ∙ sym (opens_not _ _ _ _ _ _ _ c.in-Err.refusal c.in-Err.ensures)
