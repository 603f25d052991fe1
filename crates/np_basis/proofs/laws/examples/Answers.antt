use Rattle.np_basis.proofs.Examples.{state_example, round_example}
use Rattle.np_basis.proofs.PivotExample.{has_pivot}
use Rattle.np_basis.proofs.laws.examples.Goals as goal

pub returns-clause-state : goal.returns-clause-state
returns-clause-state c = state_example

pub returns-clause-round : goal.returns-clause-round
returns-clause-round c = round_example

pub returns-clause-pivot : goal.returns-clause-pivot
returns-clause-pivot c = has_pivot
