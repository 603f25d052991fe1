use Rattle.std.proofs.Common.{◌≡◌, map, take}
use Rattle.simplex_driver.specs.Store.{written}
use Rattle.simplex_driver.proofs.forest.write_potentials.Given as goal

abbrev pub invariant-loop-node : goal.invariant-loop-node
invariant-loop-node l = l.potentials ≡ written (map (λ n. (n.0, n.1)) (take l.node-index l.node-items)) l.initial.potentials
