use Rattle.std.specs.List.{All}
use Rattle.np_model.specs.Network.Nets.{IsSoundArc}
use Rattle.bench_all.proofs.pivots.network.add_level.Given as goal

abbrev pub invariant-loop-node : goal.invariant-loop-node
invariant-loop-node l = All (IsSoundArc l.case.nodes) l.list.items
