use Rattle.std.proofs.Common.{◌≡◌, map, take}
use Rattle.simplex_driver.specs.Store.{written}
use Rattle.simplex_driver.proofs.homes.write_homes.Given as goal

abbrev pub invariant-loop-node : goal.invariant-loop-node
invariant-loop-node l = l.homes ≡ written (map (λ n. (n.0, l.least)) (take l.node-index l.node-items)) l.initial.homes
