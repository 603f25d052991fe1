use Rattle.std.proofs.Common.{◌≡◌}
use Rattle.bench_all.specs.Shapes.{piece_nodes}
use Rattle.bench_all.proofs.pieces.piece.nodes_of.Given as goal

abbrev pub invariant-loop-node : goal.invariant-loop-node
invariant-loop-node l = l.list.items ≡ piece_nodes l.node
