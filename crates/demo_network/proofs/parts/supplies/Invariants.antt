use Rattle.std.proofs.Common.{◌≡◌, map}
use Rattle.std.specs.List.{range_with_len}
use Rattle.demo_network.specs.Demo.{supply_at}
use Rattle.demo_network.proofs.parts.supplies.Given as goal

abbrev pub invariant-loop-place : goal.invariant-loop-place
invariant-loop-place l = l.items.items ≡ map (supply_at l.number) (range_with_len 0 l.place)
