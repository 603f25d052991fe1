use Rattle.std.specs.List.{All}
use Rattle.np_model.specs.Network.Nets.{IsSoundArc}
use Rattle.bench_all.proofs.pivots.network.arcs_of.Given as goal

abbrev pub invariant-loop-turn : goal.invariant-loop-turn
invariant-loop-turn l = All (IsSoundArc l.case.nodes) l.list.items
