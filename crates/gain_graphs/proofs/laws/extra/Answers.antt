use Rattle.gain_graphs.proofs.Theorems as theorems
use Rattle.gain_graphs.proofs.laws.extra.Goals as goal

pub returns-clause-exists : goal.returns-clause-exists
returns-clause-exists g c = λ field. theorems.extra_exists field

pub returns-clause-one_end : goal.returns-clause-one_end
returns-clause-one_end g c = λ field. theorems.one_end_is_unique field

pub returns-clause-not_both : goal.returns-clause-not_both
returns-clause-not_both g c = λ field. theorems.not_both field
