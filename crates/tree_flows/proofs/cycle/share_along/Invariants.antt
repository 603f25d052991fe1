use Rattle.std.proofs.Common.{◌≡◌, drop}
use Rattle.tree_flows.specs.Along.{IsWithin, share_behind}
use Rattle.tree_flows.proofs.cycle.share_along.Given as goal

abbrev pub invariant-loop-next : goal.invariant-loop-next
invariant-loop-next l =
    IsWithin l.round.nodes.now l.round.basics.now l.step
    × (share_behind l.round.nodes.now l.round.basics.now l.fn.first l.rest l.fn.share
    ≡ share_behind l.round.nodes.now l.round.basics.now l.step (drop l.next-index l.rest) l.value)
