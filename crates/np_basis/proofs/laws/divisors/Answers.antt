use Rattle.np_basis.proofs.Divisors.{potentials_divisor, directions_divisor}
use Rattle.np_basis.proofs.laws.divisors.Goals as goal

pub returns-clause-potentials : goal.returns-clause-potentials
returns-clause-potentials c = potentials_divisor

pub returns-clause-directions : goal.returns-clause-directions
returns-clause-directions c = directions_divisor
