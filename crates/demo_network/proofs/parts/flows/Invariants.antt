use Rattle.std.proofs.Common.{◌≡◌}
use Rattle.std.specs.List.{flat_map, range_with_len}
use Rattle.demo_network.specs.Demo.{flows_at}
use Rattle.demo_network.proofs.parts.flows.Given as goal

abbrev pub invariant-loop-node : goal.invariant-loop-node
invariant-loop-node l = l.items.items ≡ flat_map (flows_at l.number) (range_with_len 0 l.node)
