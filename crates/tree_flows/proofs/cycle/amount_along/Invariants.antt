use Rattle.std.proofs.Common.{◌≡◌, drop}
use Rattle.tree_flows.specs.Along.{IsWithin, amount_behind}
use Rattle.tree_flows.proofs.cycle.amount_along.Given as goal

abbrev pub invariant-loop-next : goal.invariant-loop-next
invariant-loop-next l =
    IsWithin l.round.nodes.now l.round.basics.now l.step
    × (amount_behind l.round.nodes.now l.round.basics.now l.round.sums.now l.fn.first l.rest l.fn.amount
    ≡ amount_behind l.round.nodes.now l.round.basics.now l.round.sums.now l.step (drop l.next-index l.rest) l.value)
