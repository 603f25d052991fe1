use Rattle.std.proofs.Common.{◌≡◌, length}
use Rattle.bench_all.proofs.pivots.network.supplies_of.Given as goal

abbrev pub invariant-loop-node : goal.invariant-loop-node
invariant-loop-node l = length l.list.items ≡ l.node
