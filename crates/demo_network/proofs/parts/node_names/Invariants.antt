use Rattle.std.proofs.Common.{◌≡◌, map, codes}
use Rattle.std.specs.List.{range_with_len}
use Rattle.demo_network.specs.Demo.{named}
use Rattle.demo_network.proofs.parts.node_names.Given as goal

abbrev pub invariant-loop-node : goal.invariant-loop-node
invariant-loop-node l = l.items.items ≡ map (named (codes "n")) (range_with_len 0 l.node)
