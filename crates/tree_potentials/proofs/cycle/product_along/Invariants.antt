use Rattle.std.proofs.Common.{◌≡◌, drop}
use Rattle.tree_potentials.specs.Along.{product_of}
use Rattle.tree_potentials.proofs.cycle.product_along.Given as goal

abbrev pub invariant-loop-step : goal.invariant-loop-step
invariant-loop-step l =
    product_of l.rows.nodes.now l.rows.basics.now l.steps l.fn.first ≡ product_of l.rows.nodes.now l.rows.basics.now (drop l.step-index l.steps) l.product
