use Rattle.std.proofs.Common.{◌≡◌, map}
use Rattle.std.specs.List.{range_with_len}
use Rattle.np_frac.specs.Ratio.{zero_ratio}
use Rattle.bench_all.specs.Shapes.{arc_ends}
use Rattle.bench_all.proofs.pieces.piece.basics_of.Given as goal

abbrev pub invariant-loop-node : goal.invariant-loop-node
invariant-loop-node l = l.list.items ≡ map (λ v. (v, arc_ends l.shape l.nodes v, zero_ratio)) (range_with_len 0 l.node)
