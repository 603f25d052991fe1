use Rattle.std.proofs.Common.{◌≡◌, drop}
use Rattle.tree_flows.specs.Along.{are_zero}
use Rattle.tree_flows.proofs.cycle.are_nothing.Given as goal

abbrev pub invariant-loop-step : goal.invariant-loop-step
invariant-loop-step l = are_zero l.sums l.cycle ≡ are_zero l.sums (drop l.step-index l.cycle)
