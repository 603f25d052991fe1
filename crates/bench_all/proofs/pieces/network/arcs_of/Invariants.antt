use Rattle.std.proofs.Common.{◌≡◌, map}
use Rattle.std.specs.List.{range_with_len}
use Rattle.bench_all.specs.Shapes.{net_arc}
use Rattle.bench_all.proofs.pieces.network.arcs_of.Given as goal

abbrev pub invariant-loop-node : goal.invariant-loop-node
invariant-loop-node l = l.list.items ≡ map (net_arc l.shape l.nodes) (range_with_len 0 l.node)
