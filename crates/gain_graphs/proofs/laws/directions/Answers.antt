use Rattle.gain_graphs.proofs.Directions as theorems
use Rattle.gain_graphs.proofs.laws.directions.Goals as goal

pub returns-clause-exist : goal.returns-clause-exist
returns-clause-exist g c = λ field. theorems.direction_exists field

pub returns-clause-unique : goal.returns-clause-unique
returns-clause-unique g c = λ field. theorems.direction_is_unique field
