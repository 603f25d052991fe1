use Rattle.std.proofs.Common.{◌≡◌, map, take}
use Rattle.quasi_tree.specs.Start.{end_potential}
use Rattle.simplex_driver.proofs.opening.potentials_by.Given as goal

abbrev pub invariant-loop-ends : goal.invariant-loop-ends
invariant-loop-ends l = l.potentials.items ≡ map end_potential (take l.ends-index l.artificial)
