use Rattle.std.proofs.Common.{◌≡◌, map, take}
use Rattle.simplex_driver.specs.Store.{written}
use Rattle.simplex_driver.proofs.ray.write_steps.Given as goal

abbrev pub invariant-loop-arc : goal.invariant-loop-arc
invariant-loop-arc l = l.amounts ≡ written (map (λ s. (s.0, s.1)) (take l.arc-index l.steps)) l.initial.amounts
