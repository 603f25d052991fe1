use Rattle.std.proofs.Common.{◌≡◌, map}
use Rattle.std.specs.List.{range_with_len}
use Rattle.net_csv.specs.Network.{supply_from}
use Rattle.net_csv.proofs.supply.supply_of.Given as goal

abbrev pub invariant-loop-place : goal.invariant-loop-place
invariant-loop-place l = l.items.items ≡ map (supply_from l.fn.nodes l.fn.supplies) (range_with_len 0 l.place)
