-- `legacy::Queue::rate_ok` meets its contract: a quotient tells how large the product is.
use mathlib.Core.Path.{◌∙◌}
use Prim.Native.Nat.{◌-◌}
use native.Mathlib.Omega.{arith}
use Rattle.units.specs.Logic.{both}
use Rattle.units.specs.Limits.{volume_max}
use Rattle.units.proofs.Numbers.{product-test}
use Rattle.units.proofs.Windows.{window}
use Rattle.legacy.specs.Open.{rate_ok}
use Rattle.std.proofs.lemmas.Grind.{common_steps}
use Rattle.legacy.proofs.Queue.rate_ok.Goals as goal

pub overflow_sub-result : goal.overflow_sub-result
overflow_sub-result c = let w = window _ c.requires in omega arith

pub nonzero_div-result : goal.nonzero_div-result
nonzero_div-result c = let w = window _ c.requires in omega arith

pub returns-then-contains : goal.returns-then-contains
unfolding rate_ok both
returns-then-contains c =
    let w = window _ c.requires in
    let e = product-test volume_max (c.args.window.end.0 - c.args.window.start.0) c.args.rate.0 (omega arith) in
    e ∙ grind (arith, common_steps)
