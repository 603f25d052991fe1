use Rattle.std.proofs.Common.{◌≡◌}
use Rattle.bench_all.specs.Nodes.{supplies}
use Rattle.bench_all.proofs.nodes.supplies_of.Given as goal

abbrev pub invariant-loop : goal.invariant-loop
invariant-loop l = l.list.items ≡ supplies l.counter
