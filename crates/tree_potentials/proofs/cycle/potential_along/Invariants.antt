use Rattle.std.proofs.Common.{◌≡◌, drop}
use Rattle.tree_potentials.specs.Along.{potential_of}
use Rattle.tree_potentials.proofs.cycle.potential_along.Given as goal

abbrev pub invariant-loop-step : goal.invariant-loop-step
invariant-loop-step l =
    potential_of l.rows.nodes.now l.rows.basics.now l.rows.costs.now l.steps l.fn.first
    ≡ potential_of l.rows.nodes.now l.rows.basics.now l.rows.costs.now (drop l.step-index l.steps) l.potential
