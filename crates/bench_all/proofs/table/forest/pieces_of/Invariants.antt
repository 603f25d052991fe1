use Rattle.std.proofs.Common.{◌≡◌, map}
use Rattle.bench_all.specs.Visits.{alone, alones}
use Rattle.bench_all.proofs.table.forest.pieces_of.Given as goal

abbrev pub invariant-loop-node : goal.invariant-loop-node
invariant-loop-node l = map (λ p. alone p.node) l.pieces.items ≡ alones 0 l.node
