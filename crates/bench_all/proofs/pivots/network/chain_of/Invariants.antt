use Rattle.std.proofs.Common.{◌≤◌, ◌-◌}
use Rattle.std.specs.List.{All}
use Rattle.np_model.specs.Network.Nets.{IsSoundArc}
use Rattle.bench_all.proofs.pivots.network.chain_of.Given as goal

abbrev pub invariant-loop-level : goal.invariant-loop-level
invariant-loop-level l = record {
  sound : All (IsSoundArc l.case.nodes) l.list.items;
  some : 1 ≤ l.level;
  few : l.level ≤ 16384;
}

abbrev pub decreases-loop-level : goal.decreases-loop-level
decreases-loop-level l = 16384 - l.level
