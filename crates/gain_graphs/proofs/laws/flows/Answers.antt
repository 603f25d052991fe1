use Rattle.gain_graphs.proofs.Theorems as theorems
use Rattle.gain_graphs.proofs.laws.flows.Goals as goal

pub returns-clause-exist : goal.returns-clause-exist
returns-clause-exist g c = λ field. theorems.flow_exists field

pub returns-clause-unique : goal.returns-clause-unique
returns-clause-unique g c = λ field. theorems.flow_is_unique field

pub returns-clause-rigid : goal.returns-clause-rigid
returns-clause-rigid g c = λ field. theorems.no_circulation field
