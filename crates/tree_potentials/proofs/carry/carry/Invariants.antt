use Rattle.std.proofs.Common.{◌≡◌, length, drop}
use Rattle.tree_potentials.specs.Along.{spread}
use Rattle.tree_potentials.proofs.carry.carry.Given as goal

abbrev pub invariant-loop-step : goal.invariant-loop-step
invariant-loop-step l =
    (length l.potentials.items ≡ length l.rows.nodes.now)
    × (spread l.rows.nodes.now l.rows.basics.now l.rows.costs.now l.steps l.fn.potentials.items ≡ spread l.rows.nodes.now l.rows.basics.now l.rows.costs.now (drop l.step-index l.steps) l.potentials.items)
