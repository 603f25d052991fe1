use Rattle.std.proofs.Common.{◌≡◌, map}
use Rattle.std.specs.List.{range_with_len}
use Rattle.np_model.specs.declared.log.Mark.TheVariants.{Lower}
use Rattle.bench_all.proofs.pieces.piece.marks_of.Given as goal

abbrev pub invariant-loop-node : goal.invariant-loop-node
invariant-loop-node l = l.list.items ≡ map (λ a. (a, Lower)) (range_with_len l.nodes l.node)
