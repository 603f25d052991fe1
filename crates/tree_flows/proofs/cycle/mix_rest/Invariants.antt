use Rattle.std.proofs.Common.{◌≡◌, drop, length}
use Rattle.np_frac.specs.Ratio.{zero_ratio, one_ratio}
use Rattle.tree_flows.specs.Along.{IsWithin, mix_after}
use Rattle.tree_flows.proofs.cycle.mix_rest.Given as goal

abbrev pub invariant-loop-next : goal.invariant-loop-next
invariant-loop-next l =
    IsWithin l.round.nodes.now l.round.basics.now l.step
    × (length l.amounts.items ≡ length l.round.basics.now)
    × (mix_after l.round.nodes.now l.round.basics.now l.round.sums.now l.start l.fn.first l.rest zero_ratio one_ratio l.fn.amounts.items
    ≡ mix_after l.round.nodes.now l.round.basics.now l.round.sums.now l.start l.step (drop l.next-index l.rest) l.part l.share l.amounts.items)
