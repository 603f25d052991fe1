use Rattle.std.proofs.Common.{◌≡◌, map, take}
use Rattle.simplex_driver.specs.Store.{written}
use Rattle.simplex_driver.proofs.forest.write_flows.Given as goal

abbrev pub invariant-loop-arc : goal.invariant-loop-arc
invariant-loop-arc l = l.flows ≡ written (map (λ b. (b.0, b.2)) (take l.arc-index l.arc-items)) l.initial.flows
