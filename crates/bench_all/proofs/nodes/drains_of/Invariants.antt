use Rattle.std.proofs.Common.{◌≡◌}
use Rattle.bench_all.specs.Nodes.{drains}
use Rattle.bench_all.proofs.nodes.drains_of.Given as goal

abbrev pub invariant-loop-node : goal.invariant-loop-node
invariant-loop-node l = l.list.items ≡ drains l.node
