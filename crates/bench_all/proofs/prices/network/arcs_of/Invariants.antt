use Rattle.std.proofs.Common.{◌≡◌, length}
use Rattle.std.specs.List.{All}
use Rattle.np_model.specs.Network.Nets.{IsSoundArc}
use Rattle.bench_all.proofs.prices.network.arcs_of.Given as goal

abbrev pub invariant-loop-number : goal.invariant-loop-number
invariant-loop-number l = record {
  many : length l.list.items ≡ l.number;
  sound : All (IsSoundArc 1000) l.list.items;
}
