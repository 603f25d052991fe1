use Rattle.std.proofs.Common.{◌≡◌, ◌++◌, drop}
use Rattle.tree_search.specs.Search.{fars}
use Rattle.tree_search.proofs.off.far_nodes.Given as goal

abbrev pub invariant-loop-step : goal.invariant-loop-step
invariant-loop-step l = l.list.items ++ fars (drop l.step-index l.steps) ≡ fars l.steps
