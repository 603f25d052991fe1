use Rattle.std.proofs.Common.{◌≡◌, drop}
use Rattle.tree_flows.specs.Along.{last_of}
use Rattle.tree_flows.proofs.cycle.last_step.Given as goal

abbrev pub invariant-loop-next : goal.invariant-loop-next
invariant-loop-next l = last_of l.fn.first l.rest ≡ last_of l.last (drop l.next-index l.rest)
