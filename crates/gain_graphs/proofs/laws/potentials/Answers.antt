use Rattle.gain_graphs.proofs.Theorems as theorems
use Rattle.gain_graphs.proofs.laws.potentials.Goals as goal

pub returns-clause-exist : goal.returns-clause-exist
returns-clause-exist g c = λ field. theorems.potentials_exist field

pub returns-clause-unique : goal.returns-clause-unique
returns-clause-unique g c = λ field. theorems.potentials_are_unique field
